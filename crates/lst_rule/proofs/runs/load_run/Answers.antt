use Rattle.std.proofs.Common.{ℕ, ◌+◌, ◌*◌, subst, arith}
use Rattle.lst_layout.specs.declared.limits.Limits.{Limits}
use Rattle.lst_layout.specs.Addresses.{IsWithin}
use Rattle.lst_rule.specs.Runs.{place_in}
use Rattle.lst_rule.proofs.Running.{RunsOn, runs_first, runs_next, runs_last}
use Rattle.lst_rule.proofs.runs.load_run.Goals as goal

pub first_of_run-first-requires : goal.first_of_run-first-requires
first_of_run-first-requires c = subst (λ (l : Limits). IsWithin l (place_in c.args.run 0)) c.requires.seat.limits (c.requires.run 0 (omega arith))

pub loop-turn-init : goal.loop-turn-init
loop-turn-init c = runs_first _ _ _ _ _ c.requires.seat c.requires.host

pub loop-place-init : goal.loop-place-init
loop-place-init c = subst (λ (n : ℕ). RunsOn c.args.store.now c.args.seat.now.view c.loop-turn.seat c.args.s n c.args.run c.loop-turn.out) (omega arith) c.loop-turn.invariant

pub loop-place-preserved : goal.loop-place-preserved
loop-place-preserved c = let low = c.loop-turn-test.true in let short = c.loop-place-test.true in
    subst (λ (n : ℕ). RunsOn c.args.store.now c.args.seat.now.view c.load_next.new.seat c.args.s n c.args.run c.load_next.new.out) (omega arith)
    (runs_next c.args.store.now c.args.seat.now.view c.loop-place.seat c.load_next.new.seat c.args.s (8 * c.loop-turn.turn + c.loop-place.place) c.args.run c.loop-place.out c.load_next.new.out c.loop-place.invariant (omega arith) c.load_next.ensures.seat c.load_next.ensures.next)

pub loop-turn-preserved : goal.loop-turn-preserved
loop-turn-preserved c = let past = c.loop-place-test.false in let end = c.loop-place.auto.place-end in
    subst (λ (n : ℕ). RunsOn c.args.store.now c.args.seat.now.view c.loop-place.seat c.args.s n c.args.run c.loop-place.out) (omega arith) c.loop-place.invariant

pub returns-clause-loads : goal.returns-clause-loads
returns-clause-loads c = runs_last _ _ _ _ _ _ _ c.loop-turn.invariant (let past = c.loop-turn-test.false in omega arith)
