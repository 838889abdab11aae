use Rattle.std.proofs.Common.{◌≡◌, drop}
use Rattle.lst_machine.specs.Parts.{tps_after}
use Rattle.lst_machine.proofs.merges.tps_of.Given as goal

abbrev pub invariant-loop-swap : goal.invariant-loop-swap
invariant-loop-swap l = tps_after l.tps (drop l.swap-index l.swaps) l.range l.column ≡ tps_after 0 l.swaps l.range l.column
