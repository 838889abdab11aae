use Rattle.std.proofs.Common.{◌≡◌, ◌+◌, length, drop}
use Rattle.std.specs.Prelude.{take_while}
use Rattle.lst_machine.specs.Merges.{is_settled, settled_count}
use Rattle.lst_machine.specs.Parts.{range_in}
use Rattle.lst_machine.specs.Machines.{store_of}
use Rattle.lst_machine.proofs.machine.Machine.settled_count.Given as goal

abbrev pub invariant-loop-write : goal.invariant-loop-write
invariant-loop-write l = record {
  rest : l.count + length (take_while (is_settled (store_of l.self)) (drop l.write-index (range_in l.self.ranges.items l.range))) ≡ settled_count (store_of l.self) l.range;
  count : l.count ≡ l.write-index;
}
