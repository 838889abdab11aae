use Rattle.std.proofs.Common.{◌≡◌, ℕ, sym, subst, ap, ◌∙◌, arith}
use Rattle.lst_layout.specs.declared.layout.Layout.{Layout}
use Rattle.lst_layout.specs.declared.limits.Limits.{Limits}
use Rattle.lst_retire.specs.Frames.{NoPinHolds}
use Rattle.lst_retire.proofs.Looking.{view_low, looks_first, looks_idle, looks_host, looks_free, looks_held}
use Rattle.lst_retire.proofs.frees.first_holder.Goals as goal

pub loop-session-init : goal.loop-session-init
loop-session-init c = looks_first _ _ _ c.requires.seat

pub step_look_pin-pin-requires-clause-enabled : goal.step_look_pin-pin-requires-clause-enabled
step_look_pin-pin-requires-clause-enabled c = looks_idle _ _ _ _ _ c.loop-session.invariant c.requires.idle

pub returns-then-not-lets_go-clause-some : goal.returns-then-not-lets_go-clause-some
returns-then-not-lets_go-clause-some c = looks_held _ _ _ _ _ c.loop-session.invariant c.step_look_pin-pin.new.seat _ (view_low _ _ _ _ c.requires.seat c.layout.ensures c.loop-session-test.true) c.step_look_pin-pin.ensures.looked (sym c.lets_go.ensures ∙ c.if-not-lets_go.true)

pub loop-session-preserved : goal.loop-session-preserved
loop-session-preserved c = looks_free _ _ _ _ _ c.loop-session.invariant _ _ (view_low _ _ _ _ c.requires.seat c.layout.ensures c.loop-session-test.true) c.step_look_pin-pin.ensures.seat c.step_look_pin-pin.ensures.looked (sym c.lets_go.ensures ∙ c.if-not-lets_go.false)

pub step_look_pin-pin-requires-clause-seat : goal.step_look_pin-pin-requires-clause-seat
step_look_pin-pin-requires-clause-seat c = c.loop-session.invariant.is

pub step_look_pin-pin-requires-clause-host : goal.step_look_pin-pin-requires-clause-host
step_look_pin-pin-requires-clause-host c = looks_host _ _ _ _ _ c.loop-session.invariant c.requires.host

pub step_look_pin-pin-requires-clause-within : goal.step_look_pin-pin-requires-clause-within
step_look_pin-pin-requires-clause-within c = view_low _ _ _ _ c.loop-session.invariant.is c.layout.ensures c.loop-session-test.true

pub returns-then-not-lets_go-clause-seat : goal.returns-then-not-lets_go-clause-seat
returns-then-not-lets_go-clause-seat c = c.step_look_pin-pin.ensures.seat

pub returns-then-not-lets_go-clause-none : goal.returns-then-not-lets_go-clause-none
returns-then-not-lets_go-clause-none c = tt

pub returns-clause-seat : goal.returns-clause-seat
returns-clause-seat c = c.loop-session.invariant.is

pub returns-clause-none : goal.returns-clause-none
returns-clause-none c = let all : c.loop-session.session ≡ c.args.seat.now.view.limits.sessions =
    (let few = c.loop-session.invariant.few in let over = c.loop-session-test.false in let layout = ap (λ (y : Layout). y.limits.sessions) c.layout.ensures in let limits = ap (λ (l : Limits). l.sessions) c.requires.seat.limits in omega arith) in
    subst (λ (n : ℕ). NoPinHolds c.args.seat.now.view c.loop-session.seat.view c.args.epoch n) all c.loop-session.invariant.looks

pub returns-clause-some : goal.returns-clause-some
returns-clause-some c = tt
