use Rattle.lst_session.proofs.Recounting.{hosts_all}
use Rattle.lst_work.proofs.SeenAlike.{parted_have_seen_alike}
use Rattle.lst_work.proofs.Totalling.{all_parted}
use Rattle.lst_work.proofs.totals.parted.Goals as goal

pub returns-in-Ok-clause-all : goal.returns-in-Ok-clause-all
returns-in-Ok-clause-all c = all_parted c.args.store.now c.args.crew _ _ c.requires c.in-Ok.ensures.parted (c.in-Ok.ensures.ready c.requires)

pub returns-in-Ok-clause-alike : goal.returns-in-Ok-clause-alike
returns-in-Ok-clause-alike c time early = parted_have_seen_alike c.args.store.now c.args.crew.seat.view _ _ time c.in-Ok.ensures.parted c.consider.ensures (hosts_all c.args.store.now c.args.crew c.requires) early

pub part-requires-clause-seat : goal.part-requires-clause-seat
part-requires-clause-seat c = c.requires.seat_of

pub part-requires-clause-all : goal.part-requires-clause-all
part-requires-clause-all c = hosts_all c.args.store.now c.args.crew c.requires

pub part-requires-clause-spares : goal.part-requires-clause-spares
part-requires-clause-spares c = c.requires.spares

pub returns-in-Ok-clause-parted : goal.returns-in-Ok-clause-parted
returns-in-Ok-clause-parted c = c.in-Ok.ensures.parted

pub returns-in-Ok-clause-merger : goal.returns-in-Ok-clause-merger
returns-in-Ok-clause-merger c = c.in-Ok.ensures.merger
