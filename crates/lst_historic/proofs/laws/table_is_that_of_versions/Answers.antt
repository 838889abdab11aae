use Rattle.lst_historic.proofs.Tabling.{rows_are, sum_is}
use Rattle.lst_historic.proofs.laws.table_is_that_of_versions.Goals as goal

pub returns : goal.returns
returns c = λ history time. record { rows = rows_are history time; sum = λ column. sum_is history column time }
