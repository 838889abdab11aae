use Rattle.std.proofs.Common.{◌<◌, ◌≤◌, ℕ, subst, ap}
use Rattle.lst_layout.specs.declared.layout.Layout.{Layout}
use Rattle.lst_index.proofs.Draws.{load_works, load_works_full, load_placing, load_serves, load_full, load_below, load_reached, limit_is}
use Rattle.lst_index.proofs.placing.look_at_counter.Goals as goal

pub returns-then-load_record_counter-record_count-clause-works : goal.returns-then-load_record_counter-record_count-clause-works
returns-then-load_record_counter-record_count-clause-works c = load_works_full _ _ _ _ c.load_record_counter.ensures.looked
    (subst (λ (n : ℕ). n ≤ c.load_record_counter.result) (limit_is c.args.seat.now.view c.layout.result.now.limits c.args.store.now.layout.limits c.record_count.result c.record_count.ensures.count (ap (λ (y : Layout). y.limits) c.layout.ensures) c.requires.seat.limits) c.if-load_record_counter-record_count.true)

pub returns-then-load_record_counter-record_count-clause-placing : goal.returns-then-load_record_counter-record_count-clause-placing
returns-then-load_record_counter-record_count-clause-placing c = load_placing _ _ _ _ c.load_record_counter.ensures.looked

pub returns-then-load_record_counter-record_count-clause-full : goal.returns-then-load_record_counter-record_count-clause-full
returns-then-load_record_counter-record_count-clause-full c = load_full _ _ _ _ c.load_record_counter.ensures.looked
    (subst (λ (n : ℕ). n ≤ c.load_record_counter.result) (limit_is c.args.seat.now.view c.layout.result.now.limits c.args.store.now.layout.limits c.record_count.result c.record_count.ensures.count (ap (λ (y : Layout). y.limits) c.layout.ensures) c.requires.seat.limits) c.if-load_record_counter-record_count.true)

pub returns-clause-works : goal.returns-clause-works
returns-clause-works c = load_works _ _ _ _ c.load_record_counter.ensures.looked
    (subst (λ (n : ℕ). c.load_record_counter.result < n) (limit_is c.args.seat.now.view c.layout.result.now.limits c.args.store.now.layout.limits c.record_count.result c.record_count.ensures.count (ap (λ (y : Layout). y.limits) c.layout.ensures) c.requires.seat.limits) c.if-load_record_counter-record_count.false)

pub returns-clause-placing : goal.returns-clause-placing
returns-clause-placing c = load_placing _ _ _ _ c.load_record_counter.ensures.looked

pub returns-clause-serves : goal.returns-clause-serves
returns-clause-serves c = load_serves _ _ _ _ c.load_record_counter.ensures.looked
    (subst (λ (n : ℕ). c.load_record_counter.result < n) (limit_is c.args.seat.now.view c.layout.result.now.limits c.args.store.now.layout.limits c.record_count.result c.record_count.ensures.count (ap (λ (y : Layout). y.limits) c.layout.ensures) c.requires.seat.limits) c.if-load_record_counter-record_count.false)

pub load_record_counter-requires-clause-seat : goal.load_record_counter-requires-clause-seat
load_record_counter-requires-clause-seat c = c.requires.seat

pub load_record_counter-requires-clause-host : goal.load_record_counter-requires-clause-host
load_record_counter-requires-clause-host c = c.requires.host

pub returns-then-load_record_counter-record_count-clause-seat : goal.returns-then-load_record_counter-record_count-clause-seat
returns-then-load_record_counter-record_count-clause-seat c = c.load_record_counter.ensures.seat

pub returns-then-load_record_counter-record_count-clause-serves : goal.returns-then-load_record_counter-record_count-clause-serves
returns-then-load_record_counter-record_count-clause-serves c = tt

pub returns-then-load_record_counter-record_count-clause-kept : goal.returns-then-load_record_counter-record_count-clause-kept
returns-then-load_record_counter-record_count-clause-kept c = c.load_record_counter.ensures.looked.kept

pub returns-then-load_record_counter-record_count-clause-below : goal.returns-then-load_record_counter-record_count-clause-below
returns-then-load_record_counter-record_count-clause-below c = tt

pub returns-then-load_record_counter-record_count-clause-reached : goal.returns-then-load_record_counter-record_count-clause-reached
returns-then-load_record_counter-record_count-clause-reached c = load_reached _ _ _ _ c.load_record_counter.ensures.looked
    (subst (λ (n : ℕ). n ≤ c.load_record_counter.result) (limit_is c.args.seat.now.view c.layout.result.now.limits c.args.store.now.layout.limits c.record_count.result c.record_count.ensures.count (ap (λ (y : Layout). y.limits) c.layout.ensures) c.requires.seat.limits) c.if-load_record_counter-record_count.true)

pub returns-clause-seat : goal.returns-clause-seat
returns-clause-seat c = c.load_record_counter.ensures.seat

pub returns-clause-full : goal.returns-clause-full
returns-clause-full c = tt

pub returns-clause-kept : goal.returns-clause-kept
returns-clause-kept c = c.load_record_counter.ensures.looked.kept

pub returns-clause-below : goal.returns-clause-below
returns-clause-below c = load_below _ _ _ _ c.load_record_counter.ensures.looked
    (subst (λ (n : ℕ). c.load_record_counter.result < n) (limit_is c.args.seat.now.view c.layout.result.now.limits c.args.store.now.layout.limits c.record_count.result c.record_count.ensures.count (ap (λ (y : Layout). y.limits) c.layout.ensures) c.requires.seat.limits) c.if-load_record_counter-record_count.false)

pub returns-clause-reached : goal.returns-clause-reached
returns-clause-reached c = tt
