use Rattle.std.proofs.Common.{◌≡◌, ◌++◌, ◌+◌, drop}
use Rattle.lst_replies.specs.ReportTexts.{stamps_text}
use Rattle.lst_replies.proofs.print.push_stamps.Given as goal

abbrev pub invariant-loop-place : goal.invariant-loop-place
invariant-loop-place l = l.text ++ stamps_text (l.place + 1) (drop l.place l.stamps) ≡ l.initial.text ++ stamps_text 1 l.stamps
