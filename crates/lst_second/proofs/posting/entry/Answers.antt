use Rattle.std.proofs.Common.{◌+◌, ◌<◌, ◌≤◌, sym, subst, ◌∙◌, refl, arith}
use Rattle.lst_layout.specs.declared.limits.Limits.{Limits}
use Rattle.lst_layout.specs.Areas.{tail_count, cell_words}
use Rattle.lst_second.proofs.Entries.{hand_is, hand_none, hand_loads, hand_visits}
use Rattle.lst_second.proofs.posting.entry.Goals as goal

pub returns-then-not-holds_number-clause-none : goal.returns-then-not-holds_number-clause-none
returns-then-not-holds_number-clause-none c = hand_none _ _ _ c.in-Some.tail _ _ c.load_cell-encoding.ensures.looked (omega arith) c.requires.host c.requires.tail c.in-Some.ensures.1 _ c.args.column refl (sym c.holds_number.ensures ∙ c.if-not-holds_number.true)

pub load_cell-value-requires-clause-place : goal.load_cell-value-requires-clause-place
load_cell-value-requires-clause-place c = let h = hand_is c.args.seat.now.view.limits c.args.seat.now.view c.args.s refl c.requires.host c.requires.own c.requires.tail c.consider.ensures in
    subst (λ (l : Limits). (0 < c.in-Some.tail) × (c.in-Some.tail ≤ tail_count l) × (3 + c.args.column < cell_words l)) (sym c.load_cell-encoding.ensures.looked.view.limits)
    (c.in-Some.ensures.0, (let few = h.1 in let e = c.in-Some.ensures.1 in omega arith), (let low = c.requires.column in omega arith))

pub returns-clause-posts : goal.returns-clause-posts
returns-clause-posts c = hand_loads c.args.store.now c.args.seat.now c.load_cell-encoding.new.seat c.load_cell-value.new.seat c.args.s c.args.column c.in-Some.tail c.in-Some-latch.rec _ _ c.requires.seat c.requires.host c.requires.own c.requires.tail c.requires.column c.requires.indexed c.in-Some.ensures.1 c.in-Some-latch.ensures c.load_cell-encoding.ensures.looked
    (sym c.holds_number.ensures ∙ c.if-not-holds_number.false) c.load_cell-value.ensures.looked

pub returns-clause-some : goal.returns-clause-some
returns-clause-some c = (
  refl,
  hand_visits c.args.store.now c.args.seat.now c.load_cell-encoding.new.seat c.load_cell-value.new.seat c.args.s c.args.column c.in-Some.tail c.in-Some-latch.rec _ _ c.requires.seat c.requires.host c.requires.own c.requires.tail c.requires.column c.requires.indexed c.in-Some.ensures.1 c.in-Some-latch.ensures c.load_cell-encoding.ensures.looked
      (sym c.holds_number.ensures ∙ c.if-not-holds_number.false) c.load_cell-value.ensures.looked c.load_cell-value.ensures.seat,
)

pub load_cell-encoding-requires-clause-seat : goal.load_cell-encoding-requires-clause-seat
load_cell-encoding-requires-clause-seat c = c.requires.seat

pub load_cell-encoding-requires-clause-host : goal.load_cell-encoding-requires-clause-host
load_cell-encoding-requires-clause-host c = c.requires.host

pub returns-then-not-holds_number-clause-seat : goal.returns-then-not-holds_number-clause-seat
returns-then-not-holds_number-clause-seat c = c.load_cell-encoding.ensures.seat

pub load_cell-value-requires-clause-seat : goal.load_cell-value-requires-clause-seat
load_cell-value-requires-clause-seat c = c.load_cell-encoding.ensures.seat

pub returns-clause-seat : goal.returns-clause-seat
returns-clause-seat c = c.load_cell-value.ensures.seat

pub load_cell-encoding-requires-clause-place : goal.load_cell-encoding-requires-clause-place
load_cell-encoding-requires-clause-place c = let h = hand_is c.args.seat.now.view.limits c.args.seat.now.view c.args.s refl c.requires.host c.requires.own c.requires.tail c.consider.ensures in
    (c.in-Some.ensures.0, (let few = h.1 in let e = c.in-Some.ensures.1 in omega arith), omega arith)
