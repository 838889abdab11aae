use Rattle.std.proofs.Common.{arith}
use Rattle.lst_scan.proofs.paged.room_taken.Goals as goal

pub returns : goal.returns
returns c = λ half is. (
  λ low. let most = (is c.args.last (let r = c.ranges.last in omega arith)).0 (omega arith) in let r = c.ranges.word in let t = c.ranges.last in omega arith,
  λ low. let most = (is c.args.word (let r = c.ranges.word in omega arith)).1 low in let t = c.ranges.last in omega arith,
)
