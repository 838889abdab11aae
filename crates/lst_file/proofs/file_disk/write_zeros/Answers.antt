use Rattle.std.proofs.Common.{ℕ}
use Rattle.std.proofs.lemmas.List.{take-replicate}
use Rattle.lst_file.proofs.file_disk.write_zeros.Goals as goal

pub returns : goal.returns
returns g c = rw (take-replicate {X = ℕ} c.args.count 4096 0 c.requires) at c.write.ensures
