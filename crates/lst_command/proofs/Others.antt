-- The texts of the replies to lines that are no merges.
use Rattle.std.proofs.Common.{◌≡◌, List, [], ◌∷◌, ◌++◌, refl, ap, ◌∙◌, sym}
use Rattle.lst_layout.specs.declared.limits.Limits.{Limits}
use Rattle.lst_model.specs.declared.lines.Line.{Line}
use Rattle.lst_model.specs.declared.lines.Line.TheVariants.{Phase, Merge, Call}
use Rattle.lst_model.specs.declared.replies.Reply.{Reply}
use Rattle.lst_machine.specs.State.{opening}
use Rattle.lst_machine.specs.Machine.{replies}
use Rattle.lst_machine.specs.Others.{without_merges, other_replies}
use Rattle.lst_machine.proofs.Apart.{merges_apart}
use Rattle.lst_replies.specs.Texts.{line_text, script_text}
use Rattle.lst_command.specs.Owed.{run_text}
use Rattle.lst_command.specs.Merges.{text_but_merges, other_text}

-- no line is answered
none_answered : (lines : List Line) → script_text lines [] ≡ []
none_answered [] = refl
none_answered (line ∷ lines) = refl

text_of_others : (lines : List Line) (answers : List Reply) → script_text (without_merges lines) (other_replies lines answers) ≡ text_but_merges lines answers
text_of_others [] answers = refl
text_of_others (line ∷ lines) [] = none_answered (without_merges (line ∷ lines))
text_of_others (Phase ∷ lines) (answer ∷ answers) = ap (λ rest. line_text Phase answer ++ rest) (text_of_others lines answers)
text_of_others (Merge range column ∷ lines) (answer ∷ answers) = text_of_others lines answers
text_of_others (Call session call ∷ lines) (answer ∷ answers) = ap (λ rest. line_text (Call session call) answer ++ rest) (text_of_others lines answers)

pub merges_lose_their_texts : (limits : Limits) (script : List Line) → run_text limits (without_merges script) ≡ other_text limits script
merges_lose_their_texts limits script = ap (script_text (without_merges script)) (sym (merges_apart limits opening opening script refl)) ∙ text_of_others script (replies limits opening script)
