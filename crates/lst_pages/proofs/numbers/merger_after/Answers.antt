use Rattle.std.proofs.Common.{rules}
use Rattle.lst_pages.proofs.numbers.merger_after.Goals as goal

pub returns-in-Swap : goal.returns-in-Swap
returns-in-Swap c = search rules
