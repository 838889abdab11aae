use Rattle.lst_work.proofs.Reports.{none_missing, all_ready}
use Rattle.lst_work.proofs.reporting.gathered.Goals as goal

pub returns-in-Ok-clause-crew : goal.returns-in-Ok-clause-crew
returns-in-Ok-clause-crew c = c.in-Ok.ensures.crew (all_ready c.args.store.now c.args.sessions c.requires.all)

pub unreachable-requires : goal.unreachable-requires
unreachable-requires c = none_missing c.args.store.now c.args.sessions c.args.merger.seat.view.limits c.in-Gap.missing c.requires.all c.requires.merger.seat_of.limits (c.in-Err.ensures.gap c.in-Gap.missing c.in-Gap.is)
