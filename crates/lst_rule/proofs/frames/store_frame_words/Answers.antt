use Rattle.std.proofs.Common.{ℕ, ◌+◌, ◌*◌, ◌<◌, subst, arith, slice_index}
use Rattle.lst_layout.specs.declared.limits.Limits.{Limits}
use Rattle.lst_layout.specs.Areas.{frame_count}
use Rattle.lst_rule.proofs.Wholes.{StoresOn, stores_first, stores_next, stores_last}
use Rattle.lst_rule.proofs.frames.store_frame_words.Goals as goal

pub frames-first-requires : goal.frames-first-requires
frames-first-requires c = (subst (λ (l : Limits). c.args.frame < frame_count l) c.requires.seat.limits c.requires.frame, omega arith)

pub step_store_frame-requires-clause-enabled : goal.step_store_frame-requires-clause-enabled
step_store_frame-requires-clause-enabled c = c.requires.enabled 0 0

pub loop-turn-init : goal.loop-turn-init
loop-turn-init c = stores_next _ _ _ c.step_store_frame.new.seat _ _ (slice_index c.args.words.now) (stores_first _ _ _ (slice_index c.args.words.now) c.requires.seat c.requires.host c.requires.frame c.requires.enabled) (omega arith) c.step_store_frame.ensures.seat
    record { view = c.step_store_frame.ensures.view; made = c.step_store_frame.ensures.made }

pub loop-place-init : goal.loop-place-init
loop-place-init c = subst (λ (n : ℕ). StoresOn c.args.store.now c.args.seat.now.view c.loop-turn.seat c.args.frame n (slice_index c.args.words.now)) (omega arith) c.loop-turn.invariant

pub store_frame_from-requires-clause-enabled : goal.store_frame_from-requires-clause-enabled
store_frame_from-requires-clause-enabled c = c.loop-place.invariant.enabled 0 0

pub store_frame_from-requires-clause-built : goal.store_frame_from-requires-clause-built
store_frame_from-requires-clause-built c = c.loop-place.invariant.built (omega arith)

pub loop-place-preserved : goal.loop-place-preserved
loop-place-preserved c = let low = c.loop-turn-test.true in let short = c.loop-place-test.true in
    subst (λ (n : ℕ). StoresOn c.args.store.now c.args.seat.now.view c.store_frame_from.new.seat c.args.frame n (slice_index c.args.words.now)) (omega arith)
    (stores_next _ _ _ c.store_frame_from.new.seat _ (1 + 11 * c.loop-turn.turn + c.loop-place.place) (slice_index c.args.words.now) c.loop-place.invariant (omega arith) c.store_frame_from.ensures.seat c.store_frame_from.ensures.stored)

pub loop-turn-preserved : goal.loop-turn-preserved
loop-turn-preserved c = let past = c.loop-place-test.false in let end = c.loop-place.auto.place-end in
    subst (λ (n : ℕ). StoresOn c.args.store.now c.args.seat.now.view c.loop-place.seat c.args.frame n (slice_index c.args.words.now)) (omega arith) c.loop-place.invariant

pub returns-clause-stores : goal.returns-clause-stores
returns-clause-stores c = stores_last _ _ _ _ _ _ c.loop-turn.invariant (let past = c.loop-turn-test.false in omega arith)
