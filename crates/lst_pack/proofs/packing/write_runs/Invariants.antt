use Rattle.std.proofs.Common.{◌≡◌, ◌+◌, ◌*◌, slice_index, length}
use Rattle.lst_pack.specs.Counts.{runs_below}
use Rattle.lst_pack.proofs.Closing.{IsOpen}
use Rattle.lst_pack.proofs.packing.write_runs.Given as goal

abbrev pub invariant-loop-place : goal.invariant-loop-place
invariant-loop-place l = record {
  long : length l.out ≡ 257;
  first : slice_index l.out 0 ≡ 3 + 8 * l.runs;
  counted : l.run + 1 ≡ runs_below l.values l.place;
  open_run : IsOpen l.values l.out l.run l.place;
}
