-- The positions looked at so far are filled, with other words.
use Rattle.std.proofs.Common.{length, get_or, false}
use Rattle.lst_probe.specs.Run.{Passes}
use Rattle.lst_probe.proofs.find.Given as goal

abbrev pub invariant-loop-offset : goal.invariant-loop-offset
invariant-loop-offset g l = Passes (λ position. get_or l.positions position 0) (λ word. goal.T-post g l.same word false) (length l.positions) l.from l.offset
