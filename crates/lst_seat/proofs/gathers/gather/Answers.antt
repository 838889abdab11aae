use Rattle.std.proofs.Common.{◌≡◌, List, refl, sym, subst, ap, ◌∙◌}
use Rattle.std.specs.List.{All}
use Rattle.lst_rule.specs.declared.view.View.{View}
use Rattle.lst_rule.specs.Seats.{Sitting}
use Rattle.lst_seat.specs.Seats.{IsGap}
use Rattle.lst_seat.proofs.Gathering.{all_of, hosts_all, stock_hosts, gathers}
use Rattle.lst_seat.proofs.gathers.gather.Goals as goal

pub returns-clause-all : goal.returns-clause-all
returns-clause-all c = all_of c.as_slice.result.now c.args.seats c.args.merger.view (c.as_slice.ensures.value ∙ c.seats.view_is) c.in_default.ensures

pub survey-requires-clause-all : goal.survey-requires-clause-all
survey-requires-clause-all c = hosts_all c.args.seats c.args.merger.view c.join_all.new.merger.view c.join_all.ensures.united (all_of c.as_slice.result.now c.args.seats c.args.merger.view (c.as_slice.ensures.value ∙ c.seats.view_is) c.in_default.ensures) c.requires.merger

pub see_all-requires-clause-all : goal.see_all-requires-clause-all
see_all-requires-clause-all c = stock_hosts c.args.seats c.args.merger.view c.join_all.new.merger.view c.join_all.ensures.united (all_of c.as_slice.result.now c.args.seats c.args.merger.view (c.as_slice.ensures.value ∙ c.seats.view_is) c.in_default.ensures) c.requires.merger c.survey.new.seat.view c.survey.ensures.surveyed

pub returns-clause-gathers : goal.returns-clause-gathers
returns-clause-gathers c = gathers c.args.seats c.args.merger.view c.join_all.new.merger.view c.join_all.ensures.united (all_of c.as_slice.result.now c.args.seats c.args.merger.view (c.as_slice.ensures.value ∙ c.seats.view_is) c.in_default.ensures) c.requires.merger c.survey.new.seat.view c.see_all.new.seat.view c.survey.ensures.surveyed c.see_all.ensures.sees

pub first_missing-requires : goal.first_missing-requires
first_missing-requires c = record { limits = subst (λ (l : List Sitting). All (λ (seat : Sitting). seat.view.limits ≡ c.args.merger.view.limits) l) (sym (c.as_slice.ensures.value ∙ c.seats.view_is)) (λ k d low. (c.requires.seats k d low).limits ∙ sym c.requires.seat.limits) }

pub join_all-requires-clause-seats : goal.join_all-requires-clause-seats
join_all-requires-clause-seats c = c.requires.seats

pub join_all-requires-clause-seat : goal.join_all-requires-clause-seat
join_all-requires-clause-seat c = c.requires.seat

pub join_all-requires-clause-merger : goal.join_all-requires-clause-merger
join_all-requires-clause-merger c = c.requires.merger

pub survey-requires-clause-seat : goal.survey-requires-clause-seat
survey-requires-clause-seat c = c.join_all.ensures.seat

pub see_all-requires-clause-seat : goal.see_all-requires-clause-seat
see_all-requires-clause-seat c = c.survey.ensures.seat

pub see_all-requires-clause-whole : goal.see_all-requires-clause-whole
see_all-requires-clause-whole c = ap (λ (u : View). u.whole) c.survey.ensures.surveyed.now

pub returns-clause-seat : goal.returns-clause-seat
returns-clause-seat c = c.see_all.ensures.seat

pub returns-clause-untouched : goal.returns-clause-untouched
returns-clause-untouched c = tt

pub returns-clause-gap : goal.returns-clause-gap
returns-clause-gap c = tt

pub returns-in-Some-clause-untouched : goal.returns-in-Some-clause-untouched
returns-in-Some-clause-untouched c = (refl, refl)

pub returns-in-Some-clause-gap : goal.returns-in-Some-clause-gap
returns-in-Some-clause-gap c = (c.in-Some.missing, refl, subst (λ (l : List Sitting). IsGap l c.args.merger.view c.in-Some.missing) (c.as_slice.ensures.value ∙ c.seats.view_is) c.in-Some.ensures)
