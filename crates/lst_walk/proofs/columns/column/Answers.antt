use Rattle.std.proofs.Common.{ℕ, ◌*◌, ◌+◌, ◌/◌, refl, sym, ap, ◌∙◌, arith}
use Rattle.lst_layout.specs.declared.place.Place.TheVariants.{CellWord}
use Rattle.lst_layout.specs.Addresses.{address}
use Rattle.lst_layout.specs.declared.limits.Limits.{Limits}
use Rattle.lst_rule.proofs.Watching.{watched_same}
use Rattle.lst_walk.proofs.Reading.{reader_on, at_on, watched_on}
use Rattle.lst_walk.proofs.Stamping.{at_same}
use Rattle.lst_walk.proofs.Walking.{linked_at, back_at, number_few, at_number, version_number, range_low, cell_start, cell_done, cell_over, cell_walked, cell_ended}
use Rattle.lst_walk.proofs.Paging.{page_start, page_next, page_low, page_packed, page_used, page_walked, page_saved, page_held, page_ended}
use Rattle.lst_walk.proofs.columns.column.Goals as goal

pub head-number-requires-clause-reader : goal.head-number-requires-clause-reader
head-number-requires-clause-reader c = record { seat_of = c.requires.seat; host = c.requires.host; own = c.requires.own; opened = c.requires.opened }

pub held-requires-clause-reader : goal.held-requires-clause-reader
held-requires-clause-reader c = c.loop-number.invariant.walk.reader

pub held-requires-clause-range : goal.held-requires-clause-range
held-requires-clause-range c = range_low c.args.store.now.layout.limits c.args.rec.number (c.args.rec.number / 256) c.requires.rec refl

pub held-requires-clause-number : goal.held-requires-clause-number
held-requires-clause-number c = (c.loop-number-test.true, number_few c.args.store.now c.loop-number.seat c.args.s c.args.rec.number c.loop-number.number c.loop-number.invariant.walk.reader c.loop-number.invariant.walk.versions c.loop-number.invariant.walk.chain c.loop-number-test.true)

pub held-requires-clause-version : goal.held-requires-clause-version
held-requires-clause-version c = version_number c.args.store.now c.loop-number.seat c.args.s c.args.rec.number c.loop-number.number c.loop-number.invariant.walk.reader c.loop-number.invariant.walk.versions c.loop-number.invariant.walk.chain c.loop-number-test.true (c.args.rec.number / 256) (c.args.rec.number / 256 * c.args.store.now.layout.limits.tails + c.loop-number.number) refl refl

pub tail_of-requires-clause-range : goal.tail_of-requires-clause-range
tail_of-requires-clause-range c = range_low c.args.store.now.layout.limits c.args.rec.number (c.args.rec.number / 256) c.requires.rec refl

pub tail_of-requires-clause-number : goal.tail_of-requires-clause-number
tail_of-requires-clause-number c = number_few c.args.store.now c.loop-number.seat c.args.s c.args.rec.number c.loop-number.number c.loop-number.invariant.walk.reader c.loop-number.invariant.walk.versions c.loop-number.invariant.walk.chain c.loop-number-test.true

pub below_from-number-requires-clause-version : goal.below_from-number-requires-clause-version
below_from-number-requires-clause-version c = let q = at_number c.args.store.now c.loop-number.seat c.args.s c.args.rec.number c.loop-number.number c.loop-number.invariant.walk.reader c.loop-number.invariant.walk.versions c.loop-number.invariant.walk.chain c.loop-number-test.true (c.args.rec.number / 256) (c.args.rec.number / 256 * c.args.store.now.layout.limits.tails + c.loop-number.number) refl refl in linked_at c.held.new.seat.view c.args.s c.tail_of.result q.0 (at_same c.held.new.seat.view c.args.s (c.args.rec.number / 256 * c.args.store.now.layout.limits.tails + c.loop-number.number) c.tail_of.result q.0 (sym c.tail_of.ensures) (at_on c.loop-number.seat.view c.held.new.seat.view c.args.s (c.args.rec.number / 256 * c.args.store.now.layout.limits.tails + c.loop-number.number) q.0 c.held.ensures.watched q.3)) (let falls = q.4 in let same = ap (λ (l : Limits). l.tails) c.held.ensures.reader.seat_of.limits in let n = number_few c.args.store.now c.loop-number.seat c.args.s c.args.rec.number c.loop-number.number c.loop-number.invariant.walk.reader c.loop-number.invariant.walk.versions c.loop-number.invariant.walk.chain c.loop-number-test.true in omega arith)

pub loop-number-smaller : goal.loop-number-smaller
loop-number-smaller c = let q = at_number c.args.store.now c.loop-number.seat c.args.s c.args.rec.number c.loop-number.number c.loop-number.invariant.walk.reader c.loop-number.invariant.walk.versions c.loop-number.invariant.walk.chain c.loop-number-test.true (c.args.rec.number / 256) (c.args.rec.number / 256 * c.args.store.now.layout.limits.tails + c.loop-number.number) refl refl in let e = back_at c.held.new.seat.view c.args.s c.tail_of.result c.below_from-number.result q.0 c.below_from-number.ensures.back (at_same c.held.new.seat.view c.args.s (c.args.rec.number / 256 * c.args.store.now.layout.limits.tails + c.loop-number.number) c.tail_of.result q.0 (sym c.tail_of.ensures) (at_on c.loop-number.seat.view c.held.new.seat.view c.args.s (c.args.rec.number / 256 * c.args.store.now.layout.limits.tails + c.loop-number.number) q.0 c.held.ensures.watched q.3)) in let falls = q.4 in omega arith

pub loop-number-init : goal.loop-number-init
loop-number-init c = page_start c.args.store.now c.args.seat.now.view c.head-number.new.seat c.entry_of-entry.new.seat c.args.s c.args.rec.number c.args.c c.head-number.result c.entry_of-entry.result
    (cell_start c.args.store.now c.args.seat.now.view c.head-number.new.seat c.args.s c.args.rec.number c.head-number.result c.consider.ensures c.requires.host c.requires.opened c.head-number.ensures.reader c.head-number.ensures.watched c.head-number.ensures.possible c.head-number.ensures.chain c.args.c)
    c.head-number.ensures.looked.0 c.head-number.ensures.looked.1 c.head-number.ensures.looked.2 c.entry_of-entry.ensures.reader c.entry_of-entry.ensures.skims c.entry_of-entry.ensures.takes c.entry_of-entry.ensures.none

pub returns-in-Some-clause-watched : goal.returns-in-Some-clause-watched
returns-in-Some-clause-watched c = watched_on c.args.seat.now.view c.loop-number.seat.view c.held.new.seat.view c.args.s c.loop-number.invariant.walk.watched c.held.ensures.watched

pub returns-in-Some-clause-cell : goal.returns-in-Some-clause-cell
returns-in-Some-clause-cell c = cell_done c.args.store.now c.args.seat.now.view c.loop-number.seat c.held.new.seat c.held.new.seat c.args.s c.args.rec.number c.loop-number.number (c.args.rec.number / 256) (c.args.rec.number / 256 * c.args.store.now.layout.limits.tails + c.loop-number.number) 0 c.requires.host c.requires.opened c.loop-number-test.true refl refl c.args.c c.in-Some.held c.loop-number.invariant.walk c.in-Some.ensures.tells

pub loop-number-preserved : goal.loop-number-preserved
loop-number-preserved c = page_next c.args.store.now c.args.seat.now.view c.loop-number.seat c.held.new.seat c.below_from-number.new.seat c.args.s c.args.rec.number c.loop-number.number (c.args.rec.number / 256) (c.args.rec.number / 256 * c.args.store.now.layout.limits.tails + c.loop-number.number) c.below_from-number.result c.requires.host c.requires.opened c.loop-number-test.true refl refl c.args.c c.entry_of-entry.result c.loop-number.invariant (let n = c.if-number-entry.false in omega arith) c.held.ensures.watched c.in_default.ensures.tells c.held.ensures.resolved (reader_on c.args.store.now c.held.new.seat c.below_from-number.new.seat c.args.s c.held.ensures.reader c.below_from-number.ensures.watched c.below_from-number.ensures.seat) c.below_from-number.ensures.watched (λ d at. back_at c.held.new.seat.view c.args.s c.tail_of.result c.below_from-number.result d c.below_from-number.ensures.back (at_same c.held.new.seat.view c.args.s (c.args.rec.number / 256 * c.args.store.now.layout.limits.tails + c.loop-number.number) c.tail_of.result d (sym c.tail_of.ensures) (at_on c.loop-number.seat.view c.held.new.seat.view c.args.s (c.args.rec.number / 256 * c.args.store.now.layout.limits.tails + c.loop-number.number) d c.held.ensures.watched at))) (c.in_default.ensures.leaves refl) c.held.ensures.loads c.tail_of.result c.tail_of.ensures c.below_from-number.ensures.loads

pub returns-clause-watched : goal.returns-clause-watched
returns-clause-watched c = c.loop-number.invariant.walk.watched

pub returns-clause-cell : goal.returns-clause-cell
returns-clause-cell c = cell_over c.args.store.now c.args.seat.now.view c.loop-number.seat c.args.s c.args.rec.number c.args.c c.loop-number.number c.loop-number-test.false c.loop-number.invariant.walk

pub returns-clause-walk : goal.returns-clause-walk
returns-clause-walk c = cell_ended c.args.store.now c.args.seat.now.view c.loop-number.seat c.args.s c.args.rec.number c.args.c c.loop-number.number c.loop-number-test.false c.loop-number.invariant.walk

pub returns-in-Some-clause-walk : goal.returns-in-Some-clause-walk
returns-in-Some-clause-walk c = cell_walked c.args.store.now c.args.seat.now.view c.loop-number.seat c.held.new.seat c.held.new.seat c.args.s c.args.rec.number c.loop-number.number (c.args.rec.number / 256) (c.args.rec.number / 256 * c.args.store.now.layout.limits.tails + c.loop-number.number) 0 c.requires.host c.requires.opened c.loop-number-test.true refl refl c.args.c c.in-Some.held c.loop-number.invariant.walk c.held.ensures.watched c.in-Some.ensures.tells c.held.ensures.resolved (watched_same c.held.new.seat.view c.args.s)

pub number_of-requires-clause-reader : goal.number_of-requires-clause-reader
number_of-requires-clause-reader c = c.loop-number.invariant.walk.reader

pub number_of-requires-clause-frame : goal.number_of-requires-clause-frame
number_of-requires-clause-frame c = page_low c.args.store.now c.args.seat.now.view c.loop-number.seat c.args.s c.args.rec.number c.args.c c.loop-number.number c.entry_of-entry.result c.requires.host c.requires.opened c.requires.column c.loop-number.invariant.walk (c.loop-number.invariant.serves (let some = c.loop-number-test.true in let low = c.if-number-entry.true in omega arith)) c.if-number-entry.true

pub number_of-requires-clause-packed : goal.number_of-requires-clause-packed
number_of-requires-clause-packed c = page_packed c.args.store.now c.args.seat.now.view c.loop-number.seat c.args.s c.args.rec.number c.args.c c.loop-number.number c.entry_of-entry.result c.requires.host c.requires.opened c.requires.column c.loop-number.invariant.walk (c.loop-number.invariant.serves (let some = c.loop-number-test.true in let low = c.if-number-entry.true in omega arith)) c.if-number-entry.true

pub returns-then-number-entry-clause-watched : goal.returns-then-number-entry-clause-watched
returns-then-number-entry-clause-watched c = watched_on c.args.seat.now.view c.loop-number.seat.view c.number_of.new.seat.view c.args.s c.loop-number.invariant.walk.watched c.number_of.ensures.skims.watched

pub returns-then-number-entry-clause-cell : goal.returns-then-number-entry-clause-cell
returns-then-number-entry-clause-cell c = page_used c.args.store.now c.args.seat.now.view c.loop-number.seat c.args.s c.args.rec.number c.args.c c.loop-number.number c.entry_of-entry.result c.requires.host c.requires.opened c.requires.column c.loop-number.invariant.walk (c.loop-number.invariant.serves (let some = c.loop-number-test.true in let low = c.if-number-entry.true in omega arith)) c.if-number-entry.true c.number_of.result c.number_of.ensures.number

pub returns-then-number-entry-clause-walk : goal.returns-then-number-entry-clause-walk
returns-then-number-entry-clause-walk c = page_walked c.args.store.now c.args.seat.now.view c.loop-number.seat c.args.s c.args.rec.number c.args.c c.loop-number.number c.entry_of-entry.result c.requires.host c.requires.opened c.requires.column c.loop-number.invariant.walk (c.loop-number.invariant.serves (let some = c.loop-number-test.true in let low = c.if-number-entry.true in omega arith)) c.if-number-entry.true c.number_of.new.seat.view c.number_of.result c.number_of.ensures.skims.watched

pub returns-then-number-entry-clause-saves : goal.returns-then-number-entry-clause-saves
returns-then-number-entry-clause-saves c = page_saved c.args.store.now c.args.seat.now.view c.loop-number.seat c.number_of.new.seat c.args.s c.args.rec.number c.args.c c.loop-number.number c.entry_of-entry.result c.loop-number.invariant c.number_of.ensures.skims.watched c.number_of.ensures.skims.finds

pub returns-in-Some-clause-saves : goal.returns-in-Some-clause-saves
returns-in-Some-clause-saves c = page_held c.args.store.now c.args.seat.now.view c.loop-number.seat c.held.new.seat c.args.s c.args.rec.number c.args.c c.loop-number.number c.entry_of-entry.result c.loop-number.invariant c.held.ensures.watched (let n = c.if-number-entry.false in omega arith) (c.args.rec.number / 256) (c.args.rec.number / 256 * c.args.store.now.layout.limits.tails + c.loop-number.number) refl refl c.held.ensures.loads

pub returns-clause-saves : goal.returns-clause-saves
returns-clause-saves c = page_ended c.args.store.now c.args.seat.now.view c.loop-number.seat c.args.s c.args.rec.number c.args.c c.loop-number.number c.entry_of-entry.result c.loop-number.invariant

pub below_from-number-requires-clause-first : goal.below_from-number-requires-clause-first
below_from-number-requires-clause-first c = c.first_word-first.ensures ∙ ap (λ (t : ℕ). address c.args.store.now.layout.limits (CellWord t 0)) (sym c.tail_of.ensures)

pub first_word-first-requires-clause-range : goal.first_word-first-requires-clause-range
first_word-first-requires-clause-range c = range_low c.args.store.now.layout.limits c.args.rec.number (c.args.rec.number / 256) c.requires.rec refl

pub first_word-first-requires-clause-number : goal.first_word-first-requires-clause-number
first_word-first-requires-clause-number c = (c.loop-number-test.true, number_few c.args.store.now c.loop-number.seat c.args.s c.args.rec.number c.loop-number.number c.loop-number.invariant.walk.reader c.loop-number.invariant.walk.versions c.loop-number.invariant.walk.chain c.loop-number-test.true)
