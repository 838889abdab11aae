use Rattle.std.proofs.Common.{◌≡◌, drop}
use Rattle.lst_model.specs.Tables.{all_applied}
use Rattle.lst_machine.proofs.sight.Sight.apply.Given as goal

abbrev pub invariant-loop-write : goal.invariant-loop-write
invariant-loop-write l = all_applied l.self.table (drop l.write-index l.writes) ≡ all_applied l.fn.self.table l.writes
