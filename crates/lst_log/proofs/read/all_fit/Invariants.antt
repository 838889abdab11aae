use Rattle.std.proofs.Common.{drop}
use Rattle.std.specs.Prelude.{◌↔◌}
use Rattle.std.specs.List.{AllByRecursion}
use Rattle.lst_log.specs.Format.{IsWrite}
use Rattle.lst_log.proofs.read.all_fit.Given as goal

abbrev pub invariant-loop-write : goal.invariant-loop-write
invariant-loop-write l = AllByRecursion (IsWrite l.columns) (drop l.write-index l.writes) ↔ AllByRecursion (IsWrite l.columns) l.writes
