use Rattle.std.proofs.Common.{◌≡◌, ◌≤◌, [], length}
use Rattle.lst_machine.specs.Writes.{accepted_below, gathered}
use Rattle.lst_machine.specs.Parts.{range_in}
use Rattle.lst_machine.proofs.machine.Machine.own_writes.Given as goal

abbrev pub invariant-loop-range : goal.invariant-loop-range
invariant-loop-range l = record {
  own : l.own.items ≡ gathered l.session l.number [] (accepted_below (λ range. range_in l.self.ranges.items range) l.range-index);
  within : l.range-index ≤ length l.self.ranges.items;
}
