use Rattle.lst_work.specs.Parts.{AreWithin}
use Rattle.lst_work.proofs.scripts.phase_end.Given as goal

abbrev pub invariant-loop-i : goal.invariant-loop-i
invariant-loop-i l = AreWithin l.lines l.start l.i
