use Rattle.lst_replies.specs.Reading.{stamp_of}
use Rattle.lst_replies.proofs.Fronts.{FrontOn}
use Rattle.lst_replies.proofs.parse.read_stamps.Given as goal

abbrev pub invariant-loop-place : goal.invariant-loop-place
invariant-loop-place l = FrontOn stamp_of 1 l.lines l.stamps l.place
