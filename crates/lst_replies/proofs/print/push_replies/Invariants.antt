use Rattle.std.proofs.Common.{◌≡◌, ◌++◌, flat_map, drop}
use Rattle.lst_replies.specs.ReportTexts.{told_text}
use Rattle.lst_replies.proofs.print.push_replies.Given as goal

abbrev pub invariant-loop-told : goal.invariant-loop-told
invariant-loop-told l = l.text ++ flat_map told_text (drop l.told-index l.replies) ≡ l.initial.text ++ flat_map told_text l.replies
