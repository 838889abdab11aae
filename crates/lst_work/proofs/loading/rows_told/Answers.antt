use Rattle.std.proofs.Common.{arith}
use Rattle.std.proofs.lemmas.Grind.{common_steps}
use Rattle.lst_work.proofs.loading.rows_told.Goals as goal

pub row_count-requires : goal.row_count-requires
row_count-requires c = grind (arith, common_steps)
