use Rattle.lst_work_laws.proofs.Lists.{element}
use Rattle.lst_work.proofs.Totalling.{some_session, some_parted, all_seen_so, can_begin_now, sum_now, all_summed, have_read_once, is_summed}
use Rattle.lst_work.proofs.totals.summed.Goals as goal

pub seen-time-requires : goal.seen-time-requires
seen-time-requires g c = c.requires.crew.hosted 0 (some_session c.args.store.now c.args.crew c.requires.crew)

pub summed_as_of-total-requires-clause-some : goal.summed_as_of-total-requires-clause-some
summed_as_of-total-requires-clause-some g c κs within = let e = c.in_ok-sessions.ensures in
    some_parted c.args.store.now c.args.crew c.in_ok-sessions.sessions c.in_ok-sessions.merger c.requires.crew c.requires.seen e.parted e.all c.seen-time.result c.seen-time.ensures.is

pub summed_as_of-total-requires-clause-can : goal.summed_as_of-total-requires-clause-can
summed_as_of-total-requires-clause-can g c κs within = let e = c.in_ok-sessions.ensures in
    can_begin_now c.args.store.now c.args.crew c.in_ok-sessions.sessions c.in_ok-sessions.merger c.requires.crew c.requires.seen e.parted e.all c.seen-time.result c.seen-time.ensures.is c.requires.may

pub summed_as_of-total-requires-clause-alike : goal.summed_as_of-total-requires-clause-alike
summed_as_of-total-requires-clause-alike g c κs within = let e = c.in_ok-sessions.ensures in
    e.alike c.seen-time.result (all_seen_so c.args.store.now c.args.crew c.in_ok-sessions.sessions c.in_ok-sessions.merger c.requires.crew c.requires.seen e.parted e.all c.seen-time.result c.seen-time.ensures.is)

pub gathered-requires-clause-all : goal.gathered-requires-clause-all
gathered-requires-clause-all g c = all_summed c.args.store.now c.in_ok-sessions.sessions c.summed_as_of-total.result.1 c.in_ok-sessions.ensures.all c.summed_as_of-total.ensures.sessions

pub returns : goal.returns
returns g c =
    let e = c.in_ok-sessions.ensures in let sum = c.summed_as_of-total.ensures in let old = c.in_ok-sessions.sessions in let merger = c.in_ok-sessions.merger in
    let some = some_parted c.args.store.now c.args.crew old merger c.requires.crew c.requires.seen e.parted e.all c.seen-time.result c.seen-time.ensures.is in
    is_summed c.args.store.now c.args.column c.args.crew c.summed_as_of-total.result.0 c.in_ok-crew.crew
    (sum_now c.args.store.now c.args.crew old merger c.requires.crew c.requires.seen e.parted e.all c.seen-time.result c.seen-time.ensures.is c.args.column c.summed_as_of-total.result.0 (element old 0 some) (sum.sum 0 (element old 0 some) some))
    c.in_ok-crew.ensures.crew
    (have_read_once c.args.store.now c.args.crew c.in_ok-crew.crew old c.summed_as_of-total.result.1 merger c.requires.seen e.parted sum.sessions (some_session c.args.store.now c.args.crew c.requires.crew) c.in_ok-crew.ensures.gathered c.consider.ensures)
