use Rattle.std.proofs.Common.{◌≡◌, drop}
use Rattle.lst_model.specs.Tables.{all_applied}
use Rattle.lst_csv.proofs.folding.apply_all.Given as goal

abbrev pub invariant-loop-write : goal.invariant-loop-write
invariant-loop-write l = all_applied l.table (drop l.write-index l.writes) ≡ all_applied l.fn.table l.writes
