use Rattle.std.proofs.Common.{◌≡◌, ◌++◌, drop}
use Rattle.std.specs.List.{flat_map}
use Rattle.lst_log.specs.Format.{write_bytes}
use Rattle.lst_log.proofs.write.push_writes.Given as goal

abbrev pub invariant-loop-write : goal.invariant-loop-write
invariant-loop-write l = l.text.items ++ flat_map (write_bytes l.columns) (drop l.write-index l.writes) ≡ l.fn.text.items ++ flat_map (write_bytes l.columns) l.writes
