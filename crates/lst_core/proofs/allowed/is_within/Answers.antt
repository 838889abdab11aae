use Rattle.lst_core.proofs.Standing.{claim_within}
use Rattle.lst_core.proofs.allowed.is_within.Goals as goal

pub returns-then-session-limits-2 : goal.returns-then-session-limits-2
returns-then-session-limits-2 c = claim_within c.args.layout.now.limits c.args.event c.in-Claim.session c.in-Claim.position c.in-Claim.is c.if-session-limits-2.true c.index_positions.result c.index_positions.ensures.count
