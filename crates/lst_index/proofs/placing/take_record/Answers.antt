use Rattle.std.proofs.Common.{◌<◌, sym, subst, ◌∙◌}
use Rattle.lst_layout.specs.declared.limits.Limits.{Limits}
use Rattle.lst_index.proofs.Views.{works_host}
use Rattle.lst_index.proofs.Leaving.{ok_then, draws_as}
use Rattle.lst_index.proofs.placing.take_record.Goals as goal

pub returns-clause-stores : goal.returns-clause-stores
returns-clause-stores c = ok_then c.draw.result (λ stores whole free. draws_as c.args.seat.now.view c.look_at_counter.new.seat.view c.draw.new.seat.view c.args.s c.args.key c.in_ok-look_at_counter.ensures.works.view.limits (c.in_ok-look_at_counter.ensures.kept.words whole) (stores (c.in_ok-look_at_counter.ensures.works.view.whole ∙ whole))) c.draw.ensures.stores

pub look_at_counter-requires-clause-seat : goal.look_at_counter-requires-clause-seat
look_at_counter-requires-clause-seat c = c.requires.seat

pub look_at_counter-requires-clause-host : goal.look_at_counter-requires-clause-host
look_at_counter-requires-clause-host c = c.requires.host

pub draw-requires-clause-seat : goal.draw-requires-clause-seat
draw-requires-clause-seat c = c.look_at_counter.ensures.seat

pub draw-requires-clause-host : goal.draw-requires-clause-host
draw-requires-clause-host c = works_host _ _ _ _ c.in_ok-look_at_counter.ensures.works c.requires.host

pub draw-requires-clause-own : goal.draw-requires-clause-own
draw-requires-clause-own c = subst (λ (l : Limits). c.args.s < l.sessions) (sym c.in_ok-look_at_counter.ensures.works.view.limits) c.requires.own

pub draw-requires-clause-serves : goal.draw-requires-clause-serves
draw-requires-clause-serves c = c.in_ok-look_at_counter.ensures.serves

pub returns-clause-seat : goal.returns-clause-seat
returns-clause-seat c = c.draw.ensures.seat
