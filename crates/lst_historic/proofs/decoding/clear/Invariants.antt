use Rattle.std.proofs.Common.{◌≡◌, length}
use Rattle.std.specs.Prelude.{replicate, Some}
use Rattle.lst_historic.proofs.decoding.clear.Given as goal

abbrev pub invariant-loop : goal.invariant-loop
invariant-loop l = record {
  size : length l.cells.items ≡ l.counter;
  zeros : l.cells.items ≡ replicate l.counter (Some 0);
}
