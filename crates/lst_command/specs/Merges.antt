-- The output of a run without the replies to its merge lines.
use Rattle.std.specs.Prelude.{ℕ, List, [], ◌∷◌, ◌++◌}
use Rattle.lst_layout.specs.declared.limits.Limits.{Limits}
use Rattle.lst_model.specs.declared.lines.Line.{Line}
use Rattle.lst_model.specs.declared.lines.Line.TheVariants.{Phase, Merge, Call}
use Rattle.lst_model.specs.declared.replies.Reply.{Reply}
use Rattle.lst_machine.specs.State.{opening}
use Rattle.lst_machine.specs.Machine.{replies}
use Rattle.lst_replies.specs.Texts.{line_text}

-- the texts of the replies to the lines that are no merges, in order
abbrev pub text_but_merges : List Line → List Reply → List ℕ
text_but_merges [] answers = []
text_but_merges (line ∷ lines) [] = []
text_but_merges (Phase ∷ lines) (answer ∷ answers) = line_text Phase answer ++ text_but_merges lines answers
text_but_merges (Merge range column ∷ lines) (answer ∷ answers) = text_but_merges lines answers
text_but_merges (Call session call ∷ lines) (answer ∷ answers) = line_text (Call session call) answer ++ text_but_merges lines answers

-- of a run of the whole script, merges included
abbrev pub other_text : Limits → List Line → List ℕ
other_text limits script = text_but_merges script (replies limits opening script)
