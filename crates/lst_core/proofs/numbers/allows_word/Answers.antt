use Rattle.std.proofs.Common.{rules}
use Rattle.lst_core.proofs.Masks.{mask_some}
use Rattle.lst_core.proofs.numbers.allows_word.Goals as goal

pub overflow_sub-limits : goal.overflow_sub-limits
overflow_sub-limits c = mask_some c.args.limits.now.columns c.requires.sized.columns.1

pub returns-then-now-limits : goal.returns-then-now-limits
returns-then-now-limits c = search rules
