use Rattle.lst_refinement.proofs.Folding.{folded_keys_need_no_tail, folded_tables_need_no_tail, stamped_needs_no_tail}
use Rattle.lst_refinement.proofs.laws.merged_reads_need_no_tail.Goals as goal

pub returns-clause-key : goal.returns-clause-key
returns-clause-key c = folded_keys_need_no_tail

pub returns-clause-table : goal.returns-clause-table
returns-clause-table c = folded_tables_need_no_tail

pub returns-clause-stamps : goal.returns-clause-stamps
returns-clause-stamps c = stamped_needs_no_tail
