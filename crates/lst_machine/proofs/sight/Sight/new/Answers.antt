use Rattle.std.proofs.Common.{ap, ◌∙◌}
use Rattle.std.specs.Ordering.{nat_cmp}
use Rattle.std.specs.FinMap.{get-empty}
use Rattle.lst_model.specs.Tables.{Rows, row_of}
use Rattle.lst_machine.proofs.sight.Sight.new.Goals as goal

pub invariant_of-result : goal.invariant_of-result
invariant_of-result c = record { covers = λ key none. ap (λ (table : Rows). row_of table key) c.new.ensures ∙ get-empty nat_cmp key }
