use Rattle.std.proofs.Common.{ap, sym, subst, ◌∙◌, arith}
use Rattle.lst_rule.specs.declared.view.View.{View}
use Rattle.lst_rule.specs.Surveys.{HostsAll, Surveyed}
use Rattle.lst_rule.proofs.Surveying.{seats_survey, survey_tells, survey_seat}
use Rattle.lst_rule.proofs.surveys.survey.Goals as goal

pub load-requires : goal.load-requires
load-requires c = (
  ap (λ z. z.table) c.seat.view_is ∙ c.requires.seat.table,
  (let a = c.clock-word.ensures.below in let b = c.args.store.now.wide in omega arith),
  seats_survey _ _ _ _ _ (subst HostsAll (sym (ap (λ z. z.view) c.seat.view_is)) c.requires.all),
)

pub invariant_of-seat : goal.invariant_of-seat
invariant_of-seat c = let view = ap (λ z. z.view) c.seat.view_is in let t = c.load.ensures.2.0 in (
  c.load.ensures.2.1 ∙ c.seat.invariant.0,
  c.seat.invariant.1 ∙ sym (ap (λ (v : View). v.limits) t.now),
  c.seat.invariant.2 ∙ sym (ap (λ (v : View). v.hosts) t.now),
  survey_tells _ _ t _ (subst HostsAll (sym view) c.requires.all) c.seat.invariant.3,
)

pub returns-clause-seat : goal.returns-clause-seat
returns-clause-seat c = survey_seat _ _ _ c.requires.seat (c.load.ensures.0 ∙ ap (λ z. z.table) c.seat.view_is) (subst (λ (v : View). Surveyed v c.load.new.seat.me.0) (ap (λ z. z.view) c.seat.view_is) c.load.ensures.2.0)

pub returns-clause-surveyed : goal.returns-clause-surveyed
returns-clause-surveyed c = subst (λ (v : View). Surveyed v c.load.new.seat.me.0) (ap (λ z. z.view) c.seat.view_is) c.load.ensures.2.0
