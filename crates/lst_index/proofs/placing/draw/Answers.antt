use Rattle.std.proofs.Common.{◌<◌, ◌≤◌, ℕ, refl, subst, ap}
use Rattle.lst_layout.specs.declared.layout.Layout.{Layout}
use Rattle.lst_core_state.specs.Cells.{record_count}
use Rattle.lst_index.proofs.Draws.{draw_full_works, draw_full_is, draw_full_placing, drawn_works, drawn_has, drawn_uses, draw_stores, draw_reached, limit_is}
use Rattle.lst_index.proofs.placing.draw.Goals as goal

pub returns-then-step_draw_record-record_count-clause-works : goal.returns-then-step_draw_record-record_count-clause-works
returns-then-step_draw_record-record_count-clause-works c = draw_full_works _ _ _ _ _ c.step_draw_record.ensures.met
    (subst (λ (n : ℕ). n ≤ c.step_draw_record.result) (limit_is c.args.seat.now.view c.layout.result.now.limits c.args.store.now.layout.limits c.record_count.result c.record_count.ensures.count (ap (λ (y : Layout). y.limits) c.layout.ensures) c.requires.seat.limits) c.if-step_draw_record-record_count.true)

pub returns-then-step_draw_record-record_count-clause-full : goal.returns-then-step_draw_record-record_count-clause-full
returns-then-step_draw_record-record_count-clause-full c = draw_full_is _ _ _ _ _ c.step_draw_record.ensures.met
    (subst (λ (n : ℕ). n ≤ c.step_draw_record.result) (limit_is c.args.seat.now.view c.layout.result.now.limits c.args.store.now.layout.limits c.record_count.result c.record_count.ensures.count (ap (λ (y : Layout). y.limits) c.layout.ensures) c.requires.seat.limits) c.if-step_draw_record-record_count.true)

pub returns-then-step_draw_record-record_count-clause-none : goal.returns-then-step_draw_record-record_count-clause-none
returns-then-step_draw_record-record_count-clause-none c = draw_full_placing _ _ _ _ _ c.step_draw_record.ensures.met
    (subst (λ (n : ℕ). n ≤ c.step_draw_record.result) (limit_is c.args.seat.now.view c.layout.result.now.limits c.args.store.now.layout.limits c.record_count.result c.record_count.ensures.count (ap (λ (y : Layout). y.limits) c.layout.ensures) c.requires.seat.limits) c.if-step_draw_record-record_count.true)

pub returns-clause-works : goal.returns-clause-works
returns-clause-works c = drawn_works _ _ _ _ _ c.step_draw_record.ensures.met _ _ _ c.step_store_key.ensures.made
    (subst (λ (n : ℕ). c.step_draw_record.result < n) (limit_is c.args.seat.now.view c.layout.result.now.limits c.args.store.now.layout.limits c.record_count.result c.record_count.ensures.count (ap (λ (y : Layout). y.limits) c.layout.ensures) c.requires.seat.limits) c.if-step_draw_record-record_count.false)

pub returns-clause-drawn : goal.returns-clause-drawn
returns-clause-drawn c = let low : c.step_draw_record.result < record_count c.args.seat.now.view.limits =
    subst (λ (n : ℕ). c.step_draw_record.result < n) (limit_is c.args.seat.now.view c.layout.result.now.limits c.args.store.now.layout.limits c.record_count.result c.record_count.ensures.count (ap (λ (y : Layout). y.limits) c.layout.ensures) c.requires.seat.limits) c.if-step_draw_record-record_count.false in
    (drawn_has _ _ _ _ _ c.step_draw_record.ensures.met _ _ _ c.step_store_key.ensures.made low, drawn_uses _ _ _ _ _ c.step_draw_record.ensures.met _ _ _ c.step_store_key.ensures.made low c.requires.keyless)

pub returns-clause-stores : goal.returns-clause-stores
returns-clause-stores c = draw_stores _ _ _ _ _ c.step_draw_record.ensures.met _ _ c.step_store_key.ensures.made
    (subst (λ (n : ℕ). c.step_draw_record.result < n) (limit_is c.args.seat.now.view c.layout.result.now.limits c.args.store.now.layout.limits c.record_count.result c.record_count.ensures.count (ap (λ (y : Layout). y.limits) c.layout.ensures) c.requires.seat.limits) c.if-step_draw_record-record_count.false)
    refl

pub step_draw_record-requires-clause-seat : goal.step_draw_record-requires-clause-seat
step_draw_record-requires-clause-seat c = c.requires.seat

pub step_draw_record-requires-clause-host : goal.step_draw_record-requires-clause-host
step_draw_record-requires-clause-host c = c.requires.host

pub step_draw_record-requires-clause-own : goal.step_draw_record-requires-clause-own
step_draw_record-requires-clause-own c = c.requires.own

pub step_store_key-requires-clause-seat : goal.step_store_key-requires-clause-seat
step_store_key-requires-clause-seat c = c.step_draw_record.ensures.seat

pub returns-then-step_draw_record-record_count-clause-seat : goal.returns-then-step_draw_record-record_count-clause-seat
returns-then-step_draw_record-record_count-clause-seat c = c.step_draw_record.ensures.seat

pub returns-then-step_draw_record-record_count-clause-drawn : goal.returns-then-step_draw_record-record_count-clause-drawn
returns-then-step_draw_record-record_count-clause-drawn c = tt

pub returns-then-step_draw_record-record_count-clause-stores : goal.returns-then-step_draw_record-record_count-clause-stores
returns-then-step_draw_record-record_count-clause-stores c = tt

pub returns-then-step_draw_record-record_count-clause-reached : goal.returns-then-step_draw_record-record_count-clause-reached
returns-then-step_draw_record-record_count-clause-reached c = draw_reached _ _ _ _ _ c.step_draw_record.ensures.met
    (subst (λ (n : ℕ). n ≤ c.step_draw_record.result) (limit_is c.args.seat.now.view c.layout.result.now.limits c.args.store.now.layout.limits c.record_count.result c.record_count.ensures.count (ap (λ (y : Layout). y.limits) c.layout.ensures) c.requires.seat.limits) c.if-step_draw_record-record_count.true)

pub returns-clause-seat : goal.returns-clause-seat
returns-clause-seat c = c.step_store_key.ensures.seat

pub returns-clause-full : goal.returns-clause-full
returns-clause-full c = tt

pub returns-clause-none : goal.returns-clause-none
returns-clause-none c = tt

pub returns-clause-reached : goal.returns-clause-reached
returns-clause-reached c = tt
