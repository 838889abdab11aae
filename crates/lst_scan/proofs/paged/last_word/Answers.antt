use Rattle.std.proofs.Common.{arith}
use Rattle.lst_scan.proofs.paged.last_word.Goals as goal

pub returns : goal.returns
returns c = λ word low. (λ below. let least = c.min.ensures in omega arith, λ below. let least = c.min.ensures in omega arith)
