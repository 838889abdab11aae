use Rattle.std.proofs.Common.{◌≡◌, ℕ, ◌<◌, List, Bool, false, get_or, subst, ap, ◌∙◌, arith}
use Rattle.lst_layout.specs.declared.limits.Limits.{Limits}
use Rattle.lst_seat.specs.Seats.{SeesAll}
use Rattle.lst_seat.proofs.Gathering.{sees_none, sees_next}
use Rattle.lst_seat.proofs.gathers.see_all.Goals as goal

pub loop-s-preserved : goal.loop-s-preserved
loop-s-preserved c = record {
  low = let more = c.loop-s-test.true in omega arith;
  seat_of = c.load_clock.ensures.seat;
  sees = sees_next c.args.seat.now.view c.loop-s.seat.view c.load_clock.new.seat.view c.loop-s.s c.load_clock.result c.loop-s.invariant.sees (subst (λ (l : Limits). c.loop-s.s < l.sessions) c.limits.ensures c.loop-s-test.true) c.load_clock.ensures.clocked;
}

pub loop-s-init : goal.loop-s-init
loop-s-init c = record { low = omega arith; seat_of = c.requires.seat; sees = sees_none c.args.seat.now.view c.requires.whole }

pub load_clock-requires-clause-seat : goal.load_clock-requires-clause-seat
load_clock-requires-clause-seat c = c.loop-s.invariant.seat_of

pub load_clock-requires-clause-host : goal.load_clock-requires-clause-host
load_clock-requires-clause-host c = let low = subst (λ (l : Limits). c.loop-s.s < l.sessions) c.limits.ensures c.loop-s-test.true in ap (λ (h : List Bool). get_or h c.loop-s.s false) c.loop-s.invariant.sees.hosted ∙ c.requires.all c.loop-s.s (omega arith)

pub returns-clause-seat : goal.returns-clause-seat
returns-clause-seat c = c.loop-s.invariant.seat_of

pub returns-clause-sees : goal.returns-clause-sees
returns-clause-sees c = let last : c.loop-s.s ≡ c.limits.result.now.sessions = let low = c.loop-s.invariant.low in let over = c.loop-s-test.false in omega arith in subst (λ (n : ℕ). SeesAll c.args.seat.now.view c.loop-s.seat.view n) (last ∙ ap (λ (l : Limits). l.sessions) c.limits.ensures) c.loop-s.invariant.sees
