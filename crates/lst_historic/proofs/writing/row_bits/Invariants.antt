use Rattle.std.proofs.Common.{◌≡◌, ◌+◌, ◌*◌, ◌≤◌, length, drop}
use Rattle.lst_historic.specs.Blocks.{changed_bits, emptied_bits}
use Rattle.lst_historic.proofs.writing.row_bits.Given as goal

abbrev pub invariant-loop-column : goal.invariant-loop-column
invariant-loop-column l = record {
  old : l.column ≤ length l.old.items;
  new : l.column ≤ length l.new.items;
  few : length l.old.items ≤ 8;
  bits : l.bits ≡ changed_bits (drop l.column l.old.items) (drop l.column l.new.items) + 256 * emptied_bits (drop l.column l.old.items) (drop l.column l.new.items);
}

abbrev pub decreases-loop-column : goal.decreases-loop-column
decreases-loop-column l = l.column
