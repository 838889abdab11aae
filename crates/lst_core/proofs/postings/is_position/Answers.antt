use Rattle.lst_core.proofs.ValueRuns.{position_within}
use Rattle.lst_core.proofs.postings.is_position.Goals as goal

pub returns : goal.returns
returns c = position_within c.args.layout.now.limits c.args.position c.posting_positions.result c.posting_positions.ensures.count
