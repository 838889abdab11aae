use Rattle.std.proofs.Common.{ℕ, ◌+◌, ◌*◌, ◌<◌, subst, arith, set}
use Rattle.lst_layout.specs.declared.limits.Limits.{Limits}
use Rattle.lst_layout.specs.Areas.{frame_count}
use Rattle.lst_rule.proofs.Wholes.{LoadsOn, loads_first, loads_next, loads_last}
use Rattle.lst_rule.proofs.frames.load_frame_words.Goals as goal

pub frames-first-requires : goal.frames-first-requires
frames-first-requires c = (subst (λ (l : Limits). c.args.frame < frame_count l) c.requires.seat.limits c.requires.frame, omega arith)

pub loop-turn-init : goal.loop-turn-init
loop-turn-init c = loads_first _ _ _ _ _ c.requires.seat c.requires.host c.requires.frame

pub loop-place-init : goal.loop-place-init
loop-place-init c = subst (λ (n : ℕ). LoadsOn c.args.store.now c.args.seat.now.view c.loop-turn.seat c.args.s c.args.frame n c.loop-turn.out) (omega arith) c.loop-turn.invariant

pub loop-place-preserved : goal.loop-place-preserved
loop-place-preserved c = let low = c.loop-turn-test.true in let short = c.loop-place-test.true in
    subst (λ (n : ℕ). LoadsOn c.args.store.now c.args.seat.now.view c.load_frame_from.new.seat c.args.s c.args.frame n (set c.loop-place.out (14 * c.loop-turn.turn + c.loop-place.place) c.load_frame_from.result)) (omega arith)
    (loads_next _ _ _ c.load_frame_from.new.seat _ _ (14 * c.loop-turn.turn + c.loop-place.place) c.load_frame_from.result c.loop-place.out c.loop-place.invariant (omega arith) (omega arith) c.load_frame_from.ensures.seat c.load_frame_from.ensures.loaded)

pub loop-turn-preserved : goal.loop-turn-preserved
loop-turn-preserved c = let past = c.loop-place-test.false in let end = c.loop-place.auto.place-end in
    subst (λ (n : ℕ). LoadsOn c.args.store.now c.args.seat.now.view c.loop-place.seat c.args.s c.args.frame n c.loop-place.out) (omega arith) c.loop-place.invariant

pub returns-clause-loads : goal.returns-clause-loads
returns-clause-loads c = (loads_last _ _ _ _ _ _ _ c.loop-turn.invariant (let past = c.loop-turn-test.false in omega arith)).0

pub returns-clause-found : goal.returns-clause-found
returns-clause-found c = (loads_last _ _ _ _ _ _ _ c.loop-turn.invariant (let past = c.loop-turn-test.false in omega arith)).1
