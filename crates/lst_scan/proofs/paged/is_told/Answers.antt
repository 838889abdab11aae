use Rattle.std.proofs.Common.{le-leb, leb-true, arith}
use Rattle.lst_scan.proofs.paged.is_told.Goals as goal

pub returns-then-head-last_head : goal.returns-then-head-last_head
returns-then-head-last_head c = λ tps begin heads stamps. (
  λ yes. ((heads c.args.head (let r = c.ranges.head in omega arith)).0 c.if-head-last_head.true, (stamps c.args.stamp (let r = c.ranges.stamp in omega arith)).0 (leb-true c.args.stamp c.args.last_stamp yes)),
  λ both. le-leb c.args.stamp c.args.last_stamp ((stamps c.args.stamp (let r = c.ranges.stamp in omega arith)).1 both.1),
)

pub returns-else-head-last_head : goal.returns-else-head-last_head
returns-else-head-last_head c = λ tps begin heads stamps. (
  λ no. absurd (let low = leb-true c.args.head c.args.last_head no in let above = c.if-head-last_head.false in omega arith),
  λ both. absurd (let low = (heads c.args.head (let r = c.ranges.head in omega arith)).1 both.0 in let above = c.if-head-last_head.false in omega arith),
)
