use Rattle.std.proofs.Common.{◌<◌, sym, subst, ap}
use Rattle.lst_layout.specs.declared.limits.Limits.{Limits}
use Rattle.lst_core_state.specs.declared.known.Placing.{Placing}
use Rattle.lst_rule.specs.Rule.{knows}
use Rattle.lst_index.proofs.Views.{works_on, works_host}
use Rattle.lst_index.proofs.Visiting.{lost_passed, keeps_drawn}
use Rattle.lst_index.proofs.placing.settle.Goals as goal

pub returns-in-Ok-clause-drawn : goal.returns-in-Ok-clause-drawn
returns-in-Ok-clause-drawn c = ap (λ (z : Placing). z.drawn) c.in-Ok.ensures.won.2

pub returns-in-Err-clause-works : goal.returns-in-Err-clause-works
returns-in-Err-clause-works c = works_on _ _ _ _ _ c.claim.ensures.works c.compare.ensures.works

pub returns-in-Err-clause-drawn : goal.returns-in-Err-clause-drawn
returns-in-Err-clause-drawn c = keeps_drawn (knows c.args.seat.now.view c.args.s).placing (knows c.claim.new.seat.view c.args.s).placing (knows c.compare.new.seat.view c.args.s).placing c.in-Err.ensures.lost.2 c.compare.ensures.keeps

pub returns-in-Err-clause-passed : goal.returns-in-Err-clause-passed
returns-in-Err-clause-passed c = lost_passed c.args.store.now.layout.limits c.args.seat.now.view c.claim.new.seat.view c.compare.new.seat.view c.args.s c.args.key c.args.offset c.args.position c.in-Err.lost.number c.requires.is c.compare.result c.compare.ensures.other
    c.claim.ensures.works c.requires.has c.in-Err.ensures.lost.2 c.compare.ensures.works c.requires.passed

pub claim-requires-clause-seat : goal.claim-requires-clause-seat
claim-requires-clause-seat c = c.requires.seat

pub claim-requires-clause-host : goal.claim-requires-clause-host
claim-requires-clause-host c = c.requires.host

pub claim-requires-clause-own : goal.claim-requires-clause-own
claim-requires-clause-own c = c.requires.own

pub claim-requires-clause-offset : goal.claim-requires-clause-offset
claim-requires-clause-offset c = c.requires.offset

pub claim-requires-clause-position : goal.claim-requires-clause-position
claim-requires-clause-position c = c.requires.position

pub claim-requires-clause-is : goal.claim-requires-clause-is
claim-requires-clause-is c = c.requires.is

pub claim-requires-clause-has : goal.claim-requires-clause-has
claim-requires-clause-has c = c.requires.has

pub claim-requires-clause-passed : goal.claim-requires-clause-passed
claim-requires-clause-passed c = c.requires.passed

pub compare-requires-clause-seat : goal.compare-requires-clause-seat
compare-requires-clause-seat c = c.claim.ensures.seat

pub compare-requires-clause-host : goal.compare-requires-clause-host
compare-requires-clause-host c = works_host _ _ _ _ c.claim.ensures.works c.requires.host

pub compare-requires-clause-own : goal.compare-requires-clause-own
compare-requires-clause-own c = subst (λ (l : Limits). c.args.s < l.sessions) (sym c.claim.ensures.works.view.limits) c.requires.own

pub compare-requires-clause-number : goal.compare-requires-clause-number
compare-requires-clause-number c = c.in-Err.ensures.lost.0

pub compare-requires-clause-shows : goal.compare-requires-clause-shows
compare-requires-clause-shows c = c.in-Err.ensures.lost.1

pub returns-in-Ok-clause-seat : goal.returns-in-Ok-clause-seat
returns-in-Ok-clause-seat c = c.claim.ensures.seat

pub returns-in-Ok-clause-works : goal.returns-in-Ok-clause-works
returns-in-Ok-clause-works c = c.claim.ensures.works

pub returns-in-Ok-clause-passed : goal.returns-in-Ok-clause-passed
returns-in-Ok-clause-passed c = tt

pub returns-in-Ok-clause-taken : goal.returns-in-Ok-clause-taken
returns-in-Ok-clause-taken c = tt

pub returns-in-Err-clause-seat : goal.returns-in-Err-clause-seat
returns-in-Err-clause-seat c = c.compare.ensures.seat
