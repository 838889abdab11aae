use Rattle.std.proofs.Common.{rules}
use Rattle.lst_report.proofs.Claimed.{read_if_claim, result_below}
use Rattle.lst_report.proofs.claims.read_claim.Goals as goal

pub returns-in-Ok-clause-only : goal.returns-in-Ok-clause-only
returns-in-Ok-clause-only c = read_if_claim c.args.limits.now c.args.bytes.now c.read_parts.result c.read_parts.ensures.fault

pub returns-in-Ok-clause-sessions : goal.returns-in-Ok-clause-sessions
returns-in-Ok-clause-sessions c = result_below c.args.limits.now c.args.bytes.now c.read_parts.result c.read_parts.ensures.ok

pub read_parts-requires-clause-mark : goal.read_parts-requires-clause-mark
read_parts-requires-clause-mark c = search rules
