-- A script with its merge lines taken out.
use Rattle.std.specs.Prelude.{List, [], ◌∷◌}
use Rattle.lst_model.specs.declared.lines.Line.{Line}
use Rattle.lst_model.specs.declared.lines.Line.TheVariants.{Phase, Merge, Call}
use Rattle.lst_model.specs.declared.replies.Reply.{Reply}

-- the lines that are no merges
abbrev pub without_merges : List Line → List Line
without_merges [] = []
without_merges (Phase ∷ lines) = Phase ∷ without_merges lines
without_merges (Merge range column ∷ lines) = without_merges lines
without_merges (Call session call ∷ lines) = Call session call ∷ without_merges lines

-- the replies to the lines that are no merges
abbrev pub other_replies : List Line → List Reply → List Reply
other_replies [] replies = []
other_replies lines [] = []
other_replies (Phase ∷ lines) (reply ∷ replies) = reply ∷ other_replies lines replies
other_replies (Merge range column ∷ lines) (reply ∷ replies) = other_replies lines replies
other_replies (Call session call ∷ lines) (reply ∷ replies) = reply ∷ other_replies lines replies
