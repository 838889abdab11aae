use Rattle.std.proofs.Common.{refl, sym, ◌∙◌}
use Rattle.lst_rule.proofs.Knowing.{free_turn}
use Rattle.lst_txn.proofs.Refusing.{neither, not_false, ok_err, idle_busy, tried_busy, tried_taken}
use Rattle.lst_txn.proofs.ends.take_turn.Goals as goal

pub is_open-requires : goal.is_open-requires
is_open-requires c = c.requires.host

pub returns-then-not-is_open-clause-seat : goal.returns-then-not-is_open-clause-seat
returns-then-not-is_open-clause-seat c = c.requires.seat

pub returns-then-not-is_open-clause-hosted : goal.returns-then-not-is_open-clause-hosted
returns-then-not-is_open-clause-hosted c = refl

pub returns-then-not-is_open-clause-ok : goal.returns-then-not-is_open-clause-ok
returns-then-not-is_open-clause-ok c = tt

pub returns-then-not-is_open-clause-words : goal.returns-then-not-is_open-clause-words
returns-then-not-is_open-clause-words c = tt

pub returns-then-not-is_open-clause-made : goal.returns-then-not-is_open-clause-made
returns-then-not-is_open-clause-made c = tt

pub returns-then-not-is_open-clause-idle : goal.returns-then-not-is_open-clause-idle
returns-then-not-is_open-clause-idle c = (λ _. sym c.is_open.ensures ∙ c.if-not-is_open.true, λ _. refl)

pub returns-then-not-is_open-clause-still : goal.returns-then-not-is_open-clause-still
returns-then-not-is_open-clause-still c = λ _. refl

pub returns-then-not-is_open-clause-busy : goal.returns-then-not-is_open-clause-busy
returns-then-not-is_open-clause-busy c = λ same. absurd (idle_busy _ _ refl same)

pub returns-then-not-is_open-clause-crew : goal.returns-then-not-is_open-clause-crew
returns-then-not-is_open-clause-crew c = λ _. idle_busy _ _ refl

pub step_take-requires-clause-seat : goal.step_take-requires-clause-seat
step_take-requires-clause-seat c = c.requires.seat

pub step_take-requires-clause-host : goal.step_take-requires-clause-host
step_take-requires-clause-host c = c.requires.host

pub step_take-requires-clause-own : goal.step_take-requires-clause-own
step_take-requires-clause-own c = c.requires.own

pub step_take-requires-clause-enabled : goal.step_take-requires-clause-enabled
step_take-requires-clause-enabled c = let on = sym c.is_open.ensures ∙ c.if-not-is_open.false in (on, c.requires.free.0, c.requires.free.1, c.requires.writes on)

pub returns-then-step_take-eq0-clause-seat : goal.returns-then-step_take-eq0-clause-seat
returns-then-step_take-eq0-clause-seat c = c.step_take.ensures.seat

pub returns-then-step_take-eq0-clause-hosted : goal.returns-then-step_take-eq0-clause-hosted
returns-then-step_take-eq0-clause-hosted c = c.step_take.ensures.tried.view.hosted

pub returns-then-step_take-eq0-clause-made : goal.returns-then-step_take-eq0-clause-made
returns-then-step_take-eq0-clause-made c = tried_taken _ _ _ _ c.step_take.ensures.tried c.if-step_take-eq0.true

pub returns-then-step_take-eq0-clause-idle : goal.returns-then-step_take-eq0-clause-idle
returns-then-step_take-eq0-clause-idle c = neither _ _ (ok_err _ _ _ _) (not_false _ (sym c.is_open.ensures ∙ c.if-not-is_open.false))

pub returns-then-step_take-eq0-clause-still : goal.returns-then-step_take-eq0-clause-still
returns-then-step_take-eq0-clause-still c = λ same. absurd (ok_err _ _ _ _ same)

pub returns-then-step_take-eq0-clause-busy : goal.returns-then-step_take-eq0-clause-busy
returns-then-step_take-eq0-clause-busy c = λ same. absurd (ok_err _ _ _ _ same)

pub returns-then-step_take-eq0-clause-crew : goal.returns-then-step_take-eq0-clause-crew
returns-then-step_take-eq0-clause-crew c = λ _. ok_err _ _ _ _

pub returns-else-step_take-eq0-clause-seat : goal.returns-else-step_take-eq0-clause-seat
returns-else-step_take-eq0-clause-seat c = c.step_take.ensures.seat

pub returns-else-step_take-eq0-clause-hosted : goal.returns-else-step_take-eq0-clause-hosted
returns-else-step_take-eq0-clause-hosted c = c.step_take.ensures.tried.view.hosted

pub returns-else-step_take-eq0-clause-ok : goal.returns-else-step_take-eq0-clause-ok
returns-else-step_take-eq0-clause-ok c = tt

pub returns-else-step_take-eq0-clause-words : goal.returns-else-step_take-eq0-clause-words
returns-else-step_take-eq0-clause-words c = tt

pub returns-else-step_take-eq0-clause-made : goal.returns-else-step_take-eq0-clause-made
returns-else-step_take-eq0-clause-made c = tt

pub returns-else-step_take-eq0-clause-idle : goal.returns-else-step_take-eq0-clause-idle
returns-else-step_take-eq0-clause-idle c = neither _ _ (λ same. idle_busy _ _ same refl) (not_false _ (sym c.is_open.ensures ∙ c.if-not-is_open.false))

pub returns-else-step_take-eq0-clause-still : goal.returns-else-step_take-eq0-clause-still
returns-else-step_take-eq0-clause-still c = λ same. absurd (idle_busy _ _ same refl)

pub returns-else-step_take-eq0-clause-busy : goal.returns-else-step_take-eq0-clause-busy
returns-else-step_take-eq0-clause-busy c = λ _. tried_busy _ _ _ _ c.step_take.ensures.tried c.if-step_take-eq0.false

pub returns-else-step_take-eq0-clause-crew : goal.returns-else-step_take-eq0-clause-crew
returns-else-step_take-eq0-clause-crew c away busy = let t = c.step_take.ensures.tried.met.made.told in c.if-step_take-eq0.false (sym c.step_take.ensures.tried.met.found ∙ free_turn c.args.seat.now.view t.words t.known t.merger t.allowed away)
