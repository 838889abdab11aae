use Rattle.std.proofs.Common.{ℕ, ◌*◌, ◌+◌, ◌/◌, refl, sym, ap, ◌∙◌, arith}
use Rattle.lst_layout.specs.declared.place.Place.TheVariants.{CellWord}
use Rattle.lst_layout.specs.Addresses.{address}
use Rattle.lst_layout.specs.declared.limits.Limits.{Limits}
use Rattle.lst_rule.proofs.Watching.{watched_same}
use Rattle.lst_rule.proofs.Finds.{loads_none, loads_tail}
use Rattle.lst_walk.specs.Chains.{IsTailOf}
use Rattle.lst_walk.proofs.Ahead.{loads_more}
use Rattle.lst_walk.proofs.Reading.{reader_on, at_on, watched_on}
use Rattle.lst_walk.proofs.Stamping.{at_same}
use Rattle.lst_walk.proofs.Walking.{linked_at, back_at, number_few, at_number, tail_number, version_number, range_low, cell_next, cell_done, cell_over, cell_walked, cell_ended}
use Rattle.lst_walk.proofs.columns.column_on.Goals as goal

pub loop-number-init : goal.loop-number-init
loop-number-init c = record {
  goes = λ v p. p;
  watched = watched_same c.args.seat.now.view c.args.s;
  loads = loads_none (IsTailOf c.args.seat.now.view c.args.s c.args.rec.number) c.args.seat.now.view c.args.seat.now.view c.args.s refl;
}

pub tails_of-tails-requires : goal.tails_of-tails-requires
tails_of-tails-requires c = range_low c.args.store.now.layout.limits c.args.rec.number (c.args.rec.number / 256) c.requires.rec refl

pub first_after-first-requires-clause-range : goal.first_after-first-requires-clause-range
first_after-first-requires-clause-range c = range_low c.args.store.now.layout.limits c.args.rec.number (c.args.rec.number / 256) c.requires.rec refl

pub first_after-first-requires-clause-number : goal.first_after-first-requires-clause-number
first_after-first-requires-clause-number c = (c.loop-number-test.true, number_few c.args.store.now c.loop-number.seat c.args.s c.args.rec.number c.loop-number.number (c.loop-number.invariant.goes c.requires.walk.0 c.requires.walk.1).walk.reader (c.loop-number.invariant.goes c.requires.walk.0 c.requires.walk.1).walk.versions (c.loop-number.invariant.goes c.requires.walk.0 c.requires.walk.1).walk.chain c.loop-number-test.true)

pub held-requires-clause-reader : goal.held-requires-clause-reader
held-requires-clause-reader c = (c.loop-number.invariant.goes c.requires.walk.0 c.requires.walk.1).walk.reader

pub held-requires-clause-range : goal.held-requires-clause-range
held-requires-clause-range c = range_low c.args.store.now.layout.limits c.args.rec.number (c.args.rec.number / 256) c.requires.rec refl

pub held-requires-clause-number : goal.held-requires-clause-number
held-requires-clause-number c = (c.loop-number-test.true, number_few c.args.store.now c.loop-number.seat c.args.s c.args.rec.number c.loop-number.number (c.loop-number.invariant.goes c.requires.walk.0 c.requires.walk.1).walk.reader (c.loop-number.invariant.goes c.requires.walk.0 c.requires.walk.1).walk.versions (c.loop-number.invariant.goes c.requires.walk.0 c.requires.walk.1).walk.chain c.loop-number-test.true)

pub held-requires-clause-version : goal.held-requires-clause-version
held-requires-clause-version c = version_number c.args.store.now c.loop-number.seat c.args.s c.args.rec.number c.loop-number.number (c.loop-number.invariant.goes c.requires.walk.0 c.requires.walk.1).walk.reader (c.loop-number.invariant.goes c.requires.walk.0 c.requires.walk.1).walk.versions (c.loop-number.invariant.goes c.requires.walk.0 c.requires.walk.1).walk.chain c.loop-number-test.true (c.args.rec.number / 256) (c.args.rec.number / 256 * c.args.store.now.layout.limits.tails + c.loop-number.number) refl refl

pub tail_of-requires-clause-range : goal.tail_of-requires-clause-range
tail_of-requires-clause-range c = range_low c.args.store.now.layout.limits c.args.rec.number (c.args.rec.number / 256) c.requires.rec refl

pub tail_of-requires-clause-number : goal.tail_of-requires-clause-number
tail_of-requires-clause-number c = number_few c.args.store.now c.loop-number.seat c.args.s c.args.rec.number c.loop-number.number (c.loop-number.invariant.goes c.requires.walk.0 c.requires.walk.1).walk.reader (c.loop-number.invariant.goes c.requires.walk.0 c.requires.walk.1).walk.versions (c.loop-number.invariant.goes c.requires.walk.0 c.requires.walk.1).walk.chain c.loop-number-test.true

pub below_from-number-requires-clause-version : goal.below_from-number-requires-clause-version
below_from-number-requires-clause-version c = let q = at_number c.args.store.now c.loop-number.seat c.args.s c.args.rec.number c.loop-number.number (c.loop-number.invariant.goes c.requires.walk.0 c.requires.walk.1).walk.reader (c.loop-number.invariant.goes c.requires.walk.0 c.requires.walk.1).walk.versions (c.loop-number.invariant.goes c.requires.walk.0 c.requires.walk.1).walk.chain c.loop-number-test.true (c.args.rec.number / 256) (c.args.rec.number / 256 * c.args.store.now.layout.limits.tails + c.loop-number.number) refl refl in linked_at c.held.new.seat.view c.args.s c.tail_of.result q.0 (at_same c.held.new.seat.view c.args.s (c.args.rec.number / 256 * c.args.store.now.layout.limits.tails + c.loop-number.number) c.tail_of.result q.0 (sym c.tail_of.ensures) (at_on c.loop-number.seat.view c.held.new.seat.view c.args.s (c.args.rec.number / 256 * c.args.store.now.layout.limits.tails + c.loop-number.number) q.0 c.held.ensures.watched q.3)) (let falls = q.4 in let same = ap (λ (l : Limits). l.tails) c.held.ensures.reader.seat_of.limits in let n = number_few c.args.store.now c.loop-number.seat c.args.s c.args.rec.number c.loop-number.number (c.loop-number.invariant.goes c.requires.walk.0 c.requires.walk.1).walk.reader (c.loop-number.invariant.goes c.requires.walk.0 c.requires.walk.1).walk.versions (c.loop-number.invariant.goes c.requires.walk.0 c.requires.walk.1).walk.chain c.loop-number-test.true in omega arith)

pub below_from-number-requires-clause-first : goal.below_from-number-requires-clause-first
below_from-number-requires-clause-first c = c.first_after-first.ensures ∙ ap (λ (t : ℕ). address c.args.store.now.layout.limits (CellWord t 0)) (sym c.tail_of.ensures)

pub loop-number-smaller : goal.loop-number-smaller
loop-number-smaller c = let q = at_number c.args.store.now c.loop-number.seat c.args.s c.args.rec.number c.loop-number.number (c.loop-number.invariant.goes c.requires.walk.0 c.requires.walk.1).walk.reader (c.loop-number.invariant.goes c.requires.walk.0 c.requires.walk.1).walk.versions (c.loop-number.invariant.goes c.requires.walk.0 c.requires.walk.1).walk.chain c.loop-number-test.true (c.args.rec.number / 256) (c.args.rec.number / 256 * c.args.store.now.layout.limits.tails + c.loop-number.number) refl refl in let e = back_at c.held.new.seat.view c.args.s c.tail_of.result c.below_from-number.result q.0 c.below_from-number.ensures.back (at_same c.held.new.seat.view c.args.s (c.args.rec.number / 256 * c.args.store.now.layout.limits.tails + c.loop-number.number) c.tail_of.result q.0 (sym c.tail_of.ensures) (at_on c.loop-number.seat.view c.held.new.seat.view c.args.s (c.args.rec.number / 256 * c.args.store.now.layout.limits.tails + c.loop-number.number) q.0 c.held.ensures.watched q.3)) in let falls = q.4 in omega arith

pub loop-number-preserved : goal.loop-number-preserved
loop-number-preserved c = record {
  goes = λ v p. let w = c.loop-number.invariant.goes v p in record {
    host = w.host;
    opened = w.opened;
    walk = cell_next c.args.store.now v c.loop-number.seat c.held.new.seat c.below_from-number.new.seat c.args.s c.args.rec.number c.loop-number.number (c.args.rec.number / 256) (c.args.rec.number / 256 * c.args.store.now.layout.limits.tails + c.loop-number.number) c.below_from-number.result w.host w.opened c.loop-number-test.true refl refl c.args.c w.walk c.held.ensures.watched c.in_default.ensures.tells c.held.ensures.resolved (reader_on c.args.store.now c.held.new.seat c.below_from-number.new.seat c.args.s c.held.ensures.reader c.below_from-number.ensures.watched c.below_from-number.ensures.seat) c.below_from-number.ensures.watched
        (λ d at. back_at c.held.new.seat.view c.args.s c.tail_of.result c.below_from-number.result d c.below_from-number.ensures.back (at_same c.held.new.seat.view c.args.s (c.args.rec.number / 256 * c.args.store.now.layout.limits.tails + c.loop-number.number) c.tail_of.result d (sym c.tail_of.ensures) (at_on c.loop-number.seat.view c.held.new.seat.view c.args.s (c.args.rec.number / 256 * c.args.store.now.layout.limits.tails + c.loop-number.number) d c.held.ensures.watched at))) (c.in_default.ensures.leaves refl);
  };
  watched = watched_on c.args.seat.now.view c.held.new.seat.view c.below_from-number.new.seat.view c.args.s (watched_on c.args.seat.now.view c.loop-number.seat.view c.held.new.seat.view c.args.s c.loop-number.invariant.watched c.held.ensures.watched) c.below_from-number.ensures.watched;
  loads = loads_more c.args.seat.now.view c.loop-number.seat.view c.below_from-number.new.seat.view c.args.s c.args.rec.number (c.args.rec.number / 256 * c.args.store.now.layout.limits.tails + c.loop-number.number) c.loop-number.invariant.loads (tail_number c.args.store.now c.loop-number.seat c.args.s c.args.rec.number c.loop-number.number (c.loop-number.invariant.goes c.requires.walk.0 c.requires.walk.1).walk.reader (c.loop-number.invariant.goes c.requires.walk.0 c.requires.walk.1).walk.versions (c.loop-number.invariant.goes c.requires.walk.0 c.requires.walk.1).walk.chain c.loop-number-test.true (c.args.rec.number / 256) (c.args.rec.number / 256 * c.args.store.now.layout.limits.tails + c.loop-number.number) refl refl)
      (loads_tail c.loop-number.seat.view c.held.new.seat.view c.below_from-number.new.seat.view c.args.s c.tail_of.result (c.args.rec.number / 256 * c.args.store.now.layout.limits.tails + c.loop-number.number) c.tail_of.ensures c.held.ensures.loads c.below_from-number.ensures.loads)
      (watched_on c.loop-number.seat.view c.held.new.seat.view c.below_from-number.new.seat.view c.args.s c.held.ensures.watched c.below_from-number.ensures.watched);
}

pub returns-in-Some-clause-watched : goal.returns-in-Some-clause-watched
returns-in-Some-clause-watched c = watched_on c.args.seat.now.view c.loop-number.seat.view c.held.new.seat.view c.args.s c.loop-number.invariant.watched c.held.ensures.watched

pub returns-in-Some-clause-told : goal.returns-in-Some-clause-told
returns-in-Some-clause-told c = λ v p. let w = c.loop-number.invariant.goes v p in record {
  cell = cell_done c.args.store.now v c.loop-number.seat c.held.new.seat c.held.new.seat c.args.s c.args.rec.number c.loop-number.number (c.args.rec.number / 256) (c.args.rec.number / 256 * c.args.store.now.layout.limits.tails + c.loop-number.number) 0 w.host w.opened c.loop-number-test.true refl refl c.args.c c.in-Some.held w.walk c.in-Some.ensures.tells;
  walk = cell_walked c.args.store.now v c.loop-number.seat c.held.new.seat c.held.new.seat c.args.s c.args.rec.number c.loop-number.number (c.args.rec.number / 256) (c.args.rec.number / 256 * c.args.store.now.layout.limits.tails + c.loop-number.number) 0 w.host w.opened c.loop-number-test.true refl refl c.args.c c.in-Some.held w.walk c.held.ensures.watched c.in-Some.ensures.tells c.held.ensures.resolved (watched_same c.held.new.seat.view c.args.s);
}

pub returns-clause-reader : goal.returns-clause-reader
returns-clause-reader c = (c.loop-number.invariant.goes c.requires.walk.0 c.requires.walk.1).walk.reader

pub returns-clause-watched : goal.returns-clause-watched
returns-clause-watched c = c.loop-number.invariant.watched

pub returns-clause-told : goal.returns-clause-told
returns-clause-told c = λ v p. let w = c.loop-number.invariant.goes v p in record {
  cell = cell_over c.args.store.now v c.loop-number.seat c.args.s c.args.rec.number c.args.c c.loop-number.number c.loop-number-test.false w.walk;
  walk = cell_ended c.args.store.now v c.loop-number.seat c.args.s c.args.rec.number c.args.c c.loop-number.number c.loop-number-test.false w.walk;
}

pub returns-in-Some-clause-loads : goal.returns-in-Some-clause-loads
returns-in-Some-clause-loads c = loads_more c.args.seat.now.view c.loop-number.seat.view c.held.new.seat.view c.args.s c.args.rec.number (c.args.rec.number / 256 * c.args.store.now.layout.limits.tails + c.loop-number.number) c.loop-number.invariant.loads (tail_number c.args.store.now c.loop-number.seat c.args.s c.args.rec.number c.loop-number.number (c.loop-number.invariant.goes c.requires.walk.0 c.requires.walk.1).walk.reader (c.loop-number.invariant.goes c.requires.walk.0 c.requires.walk.1).walk.versions (c.loop-number.invariant.goes c.requires.walk.0 c.requires.walk.1).walk.chain c.loop-number-test.true (c.args.rec.number / 256) (c.args.rec.number / 256 * c.args.store.now.layout.limits.tails + c.loop-number.number) refl refl) c.held.ensures.loads c.held.ensures.watched

pub returns-clause-loads : goal.returns-clause-loads
returns-clause-loads c = c.loop-number.invariant.loads
