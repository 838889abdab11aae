use Rattle.std.proofs.Common.{◌≡◌, [], replicate}
use Rattle.lst_machine.proofs.machine.new_ranges.Given as goal

abbrev pub invariant-loop : goal.invariant-loop
invariant-loop l = l.ranges.items ≡ replicate l.counter []
