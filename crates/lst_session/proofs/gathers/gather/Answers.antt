use Rattle.std.proofs.Common.{List, ◌∙◌, sym, subst}
use Rattle.std.specs.List.{All}
use Rattle.lst_rule.specs.Seats.{Sitting}
use Rattle.lst_rule.specs.Stores.{IsSeatOf}
use Rattle.lst_seat.specs.Seats.{IsGap, Gathers}
use Rattle.lst_session.proofs.Gathering.{there_of, seats_of_store, no_gap, gathered, spares_gathered, crew_gathered}
use Rattle.lst_session.proofs.gathers.gather.Goals as goal

pub gather-requires-clause-seats : goal.gather-requires-clause-seats
gather-requires-clause-seats c = subst (All (IsSeatOf c.args.store.now)) (sym c.seats_of.ensures) (seats_of_store c.args.store.now c.args.sessions c.args.merger.seat c.requires.sessions c.requires.merger.seat_of
    (there_of c.as_slice.result.now c.args.sessions c.limits.result.now c.args.merger.seat.view.limits (c.as_slice.ensures.value ∙ c.sessions.view_is) c.limits.ensures c.in_default.ensures))

pub unreachable-requires : goal.unreachable-requires
unreachable-requires c = no_gap c.args.store.now c.args.sessions c.args.merger.seat c.requires.sessions c.requires.merger.seat_of
    (there_of c.as_slice.result.now c.args.sessions c.limits.result.now c.args.merger.seat.view.limits (c.as_slice.ensures.value ∙ c.sessions.view_is) c.limits.ensures c.in_default.ensures)
    c.in-Err-gather.ensures.gap.0 (subst (λ (seats : List Sitting). IsGap seats c.args.merger.seat.view c.in-Err-gather.ensures.gap.0) c.seats_of.ensures c.in-Err-gather.ensures.gap.2)

pub returns-clause-gathered : goal.returns-clause-gathered
returns-clause-gathered c = gathered c.args.store.now c.args.sessions c.args.merger.seat c.requires.sessions c.requires.merger.seat_of
    (there_of c.as_slice.result.now c.args.sessions c.limits.result.now c.args.merger.seat.view.limits (c.as_slice.ensures.value ∙ c.sessions.view_is) c.limits.ensures c.in_default.ensures)
    (record { seat = c.in-Ok-gather.seat; spares = c.args.merger.spares }) c.in-Ok-gather.ensures.seat (subst (λ (seats : List Sitting). Gathers seats c.args.merger.seat.view c.in-Ok-gather.seat.view) c.seats_of.ensures c.in-Ok-gather.ensures.gathers) c.requires.merger.host

pub returns-clause-spares : goal.returns-clause-spares
returns-clause-spares c = spares_gathered c.args.store.now c.args.sessions c.args.merger.seat c.requires.sessions c.requires.merger.seat_of
    (there_of c.as_slice.result.now c.args.sessions c.limits.result.now c.args.merger.seat.view.limits (c.as_slice.ensures.value ∙ c.sessions.view_is) c.limits.ensures c.in_default.ensures)
    (record { seat = c.in-Ok-gather.seat; spares = c.args.merger.spares }) c.in-Ok-gather.ensures.seat (subst (λ (seats : List Sitting). Gathers seats c.args.merger.seat.view c.in-Ok-gather.seat.view) c.seats_of.ensures c.in-Ok-gather.ensures.gathers) c.requires.merger.host c.requires.merger.spares

pub returns-clause-crew : goal.returns-clause-crew
returns-clause-crew c = crew_gathered c.args.store.now c.args.sessions c.args.merger.seat c.requires.sessions c.requires.merger.seat_of
    (there_of c.as_slice.result.now c.args.sessions c.limits.result.now c.args.merger.seat.view.limits (c.as_slice.ensures.value ∙ c.sessions.view_is) c.limits.ensures c.in_default.ensures)
    (record { seat = c.in-Ok-gather.seat; spares = c.args.merger.spares }) c.in-Ok-gather.ensures.seat (subst (λ (seats : List Sitting). Gathers seats c.args.merger.seat.view c.in-Ok-gather.seat.view) c.seats_of.ensures c.in-Ok-gather.ensures.gathers)
    (spares_gathered c.args.store.now c.args.sessions c.args.merger.seat c.requires.sessions c.requires.merger.seat_of
    (there_of c.as_slice.result.now c.args.sessions c.limits.result.now c.args.merger.seat.view.limits (c.as_slice.ensures.value ∙ c.sessions.view_is) c.limits.ensures c.in_default.ensures)
    (record { seat = c.in-Ok-gather.seat; spares = c.args.merger.spares }) c.in-Ok-gather.ensures.seat (subst (λ (seats : List Sitting). Gathers seats c.args.merger.seat.view c.in-Ok-gather.seat.view) c.seats_of.ensures c.in-Ok-gather.ensures.gathers) c.requires.merger.host c.requires.merger.spares)
