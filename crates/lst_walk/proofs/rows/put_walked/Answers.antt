use Rattle.std.proofs.Common.{ℕ, ◌*◌, ◌+◌, ◌/◌, refl, sym, ap, ◌∙◌, arith}
use Rattle.std.specs.Prelude.{replicate, None, is_some}
use Rattle.lst_layout.specs.declared.layout.Layout.{Layout}
use Rattle.lst_layout.specs.declared.limits.Limits.{Limits}
use Rattle.lst_rule.proofs.Watching.{watched_same}
use Rattle.lst_walk.proofs.Reading.{reader_on, at_on, version_on, watched_on}
use Rattle.lst_walk.proofs.Stamping.{at_same, has_same}
use Rattle.lst_walk.proofs.Lists.{take_same, none_set}
use Rattle.lst_walk.proofs.Walking.{linked_at, back_at, number_few, at_number, version_number, range_low, row_done, row_gone, row_over, row_walked, gone_walked, row_ended}
use Rattle.std.specs.List.{list_all}
use Rattle.lst_walk.proofs.Rowing.{rows_next, rows_saved, rows_held, rows_whole, rows_walked, high_column, unset_still}
use Rattle.lst_walk.proofs.Straight.{walked_start}
use Rattle.lst_rule.proofs.Finds.{loads_tail}
use Rattle.lst_walk.proofs.Setting.{none_known}
use Rattle.lst_layout.specs.declared.place.Place.TheVariants.{CellWord}
use Rattle.lst_layout.specs.Addresses.{address}
use Rattle.lst_walk.proofs.rows.put_walked.Goals as goal

pub look-requires-clause-reader : goal.look-requires-clause-reader
look-requires-clause-reader c = (c.in-Partly.ensures.filled c.requires.walk.0 (c.loop-number.invariant.goes c.requires.walk.0 c.requires.walk.1)).walk.reader

pub look-requires-clause-range : goal.look-requires-clause-range
look-requires-clause-range c = range_low c.args.store.now.layout.limits c.args.rec.number (c.args.rec.number / 256) c.requires.rec refl

pub look-requires-clause-number : goal.look-requires-clause-number
look-requires-clause-number c = (c.loop-number-test.true, number_few c.args.store.now c.fill.new.seat c.args.s c.args.rec.number c.loop-number.number (c.in-Partly.ensures.filled c.requires.walk.0 (c.loop-number.invariant.goes c.requires.walk.0 c.requires.walk.1)).walk.reader (c.in-Partly.ensures.filled c.requires.walk.0 (c.loop-number.invariant.goes c.requires.walk.0 c.requires.walk.1)).walk.versions (c.in-Partly.ensures.filled c.requires.walk.0 (c.loop-number.invariant.goes c.requires.walk.0 c.requires.walk.1)).walk.chain c.loop-number-test.true)

pub look-requires-clause-version : goal.look-requires-clause-version
look-requires-clause-version c = version_number c.args.store.now c.fill.new.seat c.args.s c.args.rec.number c.loop-number.number (c.in-Partly.ensures.filled c.requires.walk.0 (c.loop-number.invariant.goes c.requires.walk.0 c.requires.walk.1)).walk.reader (c.in-Partly.ensures.filled c.requires.walk.0 (c.loop-number.invariant.goes c.requires.walk.0 c.requires.walk.1)).walk.versions (c.in-Partly.ensures.filled c.requires.walk.0 (c.loop-number.invariant.goes c.requires.walk.0 c.requires.walk.1)).walk.chain c.loop-number-test.true (c.args.rec.number / 256) (c.args.rec.number / 256 * c.args.store.now.layout.limits.tails + c.loop-number.number) refl refl

pub tail_of-tail-requires-clause-range : goal.tail_of-tail-requires-clause-range
tail_of-tail-requires-clause-range c = range_low c.args.store.now.layout.limits c.args.rec.number (c.args.rec.number / 256) c.requires.rec refl

pub tail_of-tail-requires-clause-number : goal.tail_of-tail-requires-clause-number
tail_of-tail-requires-clause-number c = number_few c.args.store.now c.fill.new.seat c.args.s c.args.rec.number c.loop-number.number (c.in-Partly.ensures.filled c.requires.walk.0 (c.loop-number.invariant.goes c.requires.walk.0 c.requires.walk.1)).walk.reader (c.in-Partly.ensures.filled c.requires.walk.0 (c.loop-number.invariant.goes c.requires.walk.0 c.requires.walk.1)).walk.versions (c.in-Partly.ensures.filled c.requires.walk.0 (c.loop-number.invariant.goes c.requires.walk.0 c.requires.walk.1)).walk.chain c.loop-number-test.true

pub below_from-number-requires-clause-version : goal.below_from-number-requires-clause-version
below_from-number-requires-clause-version c = let q = at_number c.args.store.now c.fill.new.seat c.args.s c.args.rec.number c.loop-number.number (c.in-Partly.ensures.filled c.requires.walk.0 (c.loop-number.invariant.goes c.requires.walk.0 c.requires.walk.1)).walk.reader (c.in-Partly.ensures.filled c.requires.walk.0 (c.loop-number.invariant.goes c.requires.walk.0 c.requires.walk.1)).walk.versions (c.in-Partly.ensures.filled c.requires.walk.0 (c.loop-number.invariant.goes c.requires.walk.0 c.requires.walk.1)).walk.chain c.loop-number-test.true (c.args.rec.number / 256) (c.args.rec.number / 256 * c.args.store.now.layout.limits.tails + c.loop-number.number) refl refl in linked_at c.look.new.seat.view c.args.s c.tail_of-tail.result q.0 (at_same c.look.new.seat.view c.args.s (c.args.rec.number / 256 * c.args.store.now.layout.limits.tails + c.loop-number.number) c.tail_of-tail.result q.0 (sym c.tail_of-tail.ensures) (at_on c.fill.new.seat.view c.look.new.seat.view c.args.s (c.args.rec.number / 256 * c.args.store.now.layout.limits.tails + c.loop-number.number) q.0 c.look.ensures.watched q.3)) (let falls = q.4 in let same = ap (λ (l : Limits). l.tails) c.look.ensures.reader.seat_of.limits in let n = number_few c.args.store.now c.fill.new.seat c.args.s c.args.rec.number c.loop-number.number (c.in-Partly.ensures.filled c.requires.walk.0 (c.loop-number.invariant.goes c.requires.walk.0 c.requires.walk.1)).walk.reader (c.in-Partly.ensures.filled c.requires.walk.0 (c.loop-number.invariant.goes c.requires.walk.0 c.requires.walk.1)).walk.versions (c.in-Partly.ensures.filled c.requires.walk.0 (c.loop-number.invariant.goes c.requires.walk.0 c.requires.walk.1)).walk.chain c.loop-number-test.true in omega arith)

pub loop-number-smaller : goal.loop-number-smaller
loop-number-smaller c = let q = at_number c.args.store.now c.fill.new.seat c.args.s c.args.rec.number c.loop-number.number (c.in-Partly.ensures.filled c.requires.walk.0 (c.loop-number.invariant.goes c.requires.walk.0 c.requires.walk.1)).walk.reader (c.in-Partly.ensures.filled c.requires.walk.0 (c.loop-number.invariant.goes c.requires.walk.0 c.requires.walk.1)).walk.versions (c.in-Partly.ensures.filled c.requires.walk.0 (c.loop-number.invariant.goes c.requires.walk.0 c.requires.walk.1)).walk.chain c.loop-number-test.true (c.args.rec.number / 256) (c.args.rec.number / 256 * c.args.store.now.layout.limits.tails + c.loop-number.number) refl refl in let e = back_at c.look.new.seat.view c.args.s c.tail_of-tail.result c.below_from-number.result q.0 c.below_from-number.ensures.back (at_same c.look.new.seat.view c.args.s (c.args.rec.number / 256 * c.args.store.now.layout.limits.tails + c.loop-number.number) c.tail_of-tail.result q.0 (sym c.tail_of-tail.ensures) (at_on c.fill.new.seat.view c.look.new.seat.view c.args.s (c.args.rec.number / 256 * c.args.store.now.layout.limits.tails + c.loop-number.number) q.0 c.look.ensures.watched q.3)) in let falls = q.4 in omega arith

pub row_under-requires-clause-version : goal.row_under-requires-clause-version
row_under-requires-clause-version c = has_same c.look.new.seat.view c.args.s (c.args.rec.number / 256 * c.args.store.now.layout.limits.tails + c.loop-number.number) c.tail_of-tail.result (sym c.tail_of-tail.ensures)
    (version_on c.fill.new.seat.view c.look.new.seat.view c.args.s _ c.look.ensures.watched (version_number c.args.store.now c.fill.new.seat c.args.s c.args.rec.number c.loop-number.number (c.in-Partly.ensures.filled c.requires.walk.0 (c.loop-number.invariant.goes c.requires.walk.0 c.requires.walk.1)).walk.reader (c.in-Partly.ensures.filled c.requires.walk.0 (c.loop-number.invariant.goes c.requires.walk.0 c.requires.walk.1)).walk.versions (c.in-Partly.ensures.filled c.requires.walk.0 (c.loop-number.invariant.goes c.requires.walk.0 c.requires.walk.1)).walk.chain c.loop-number-test.true (c.args.rec.number / 256) (c.args.rec.number / 256 * c.args.store.now.layout.limits.tails + c.loop-number.number) refl refl))

pub fill-requires-clause-reader : goal.fill-requires-clause-reader
fill-requires-clause-reader c = (c.loop-number.invariant.goes c.requires.walk.0 c.requires.walk.1).walk.reader

pub fill-requires-clause-wide : goal.fill-requires-clause-wide
fill-requires-clause-wide c = (c.loop-number.invariant.goes c.requires.walk.0 c.requires.walk.1).walk.wide

pub fill-requires-clause-walk : goal.fill-requires-clause-walk
fill-requires-clause-walk c = (c.requires.walk.0, c.loop-number.invariant.goes c.requires.walk.0 c.requires.walk.1)

pub returns-clause-told : goal.returns-clause-told
returns-clause-told c = λ v p. record {
  watched = (c.loop-number.invariant.goes v p).walk.watched;
  row = row_over c.args.store.now v c.loop-number.seat c.args.s c.args.rec.number c.loop-number.number c.loop-number.patch c.loop-number-test.false (c.loop-number.invariant.goes v p).walk;
  walk = row_ended c.args.store.now v c.loop-number.seat c.args.s c.args.rec.number c.loop-number.number c.loop-number.patch c.loop-number-test.false (c.loop-number.invariant.goes v p).walk;
  saves = rows_saved c.args.store.now v c.loop-number.seat c.loop-number.seat.view c.args.s c.args.rec.number c.loop-number.number c.put_entries.new.entries c.loop-number.patch (c.loop-number.invariant.goes v p) (watched_same c.loop-number.seat.view c.args.s) refl;
}

pub returns-in-Absent-clause-told : goal.returns-in-Absent-clause-told
returns-in-Absent-clause-told c = λ v p. record {
  watched = watched_on v c.loop-number.seat.view c.fill.new.seat.view c.args.s (c.loop-number.invariant.goes v p).walk.watched c.fill.ensures.skims.watched;
  row = (c.in-Absent.ensures.filled v (c.loop-number.invariant.goes v p)).0;
  walk = (c.in-Absent.ensures.filled v (c.loop-number.invariant.goes v p)).1;
  saves = rows_saved c.args.store.now v c.loop-number.seat c.fill.new.seat.view c.args.s c.args.rec.number c.loop-number.number c.put_entries.new.entries c.loop-number.patch (c.loop-number.invariant.goes v p) c.fill.ensures.skims.watched c.fill.ensures.skims.finds;
}

pub returns-in-Whole-clause-told : goal.returns-in-Whole-clause-told
returns-in-Whole-clause-told c = λ v p. record {
  watched = watched_on v c.loop-number.seat.view c.fill.new.seat.view c.args.s (c.loop-number.invariant.goes v p).walk.watched c.fill.ensures.skims.watched;
  row = let f = c.in-Whole.ensures.filled v (c.loop-number.invariant.goes v p) in rows_whole c.args.store.now v c.fill.new.seat c.args.s c.args.rec.number c.loop-number.number c.put_entries.new.entries c.fill.new.patch c.row_of.result f.0 f.1 c.row_of.ensures;
  walk = let f = c.in-Whole.ensures.filled v (c.loop-number.invariant.goes v p) in rows_walked c.args.store.now v c.fill.new.seat c.args.s c.args.rec.number c.loop-number.number c.put_entries.new.entries c.fill.new.patch c.row_of.result f.0 f.1 c.row_of.ensures;
  saves = rows_saved c.args.store.now v c.loop-number.seat c.fill.new.seat.view c.args.s c.args.rec.number c.loop-number.number c.put_entries.new.entries c.loop-number.patch (c.loop-number.invariant.goes v p) c.fill.ensures.skims.watched c.fill.ensures.skims.finds;
}

pub returns-in-Row-clause-told : goal.returns-in-Row-clause-told
returns-in-Row-clause-told c = λ v p. record {
  watched = watched_on v c.look.new.seat.view c.row_under.new.seat.view c.args.s (watched_on v c.fill.new.seat.view c.look.new.seat.view c.args.s (watched_on v c.loop-number.seat.view c.fill.new.seat.view c.args.s (c.loop-number.invariant.goes v p).walk.watched c.fill.ensures.skims.watched) c.look.ensures.watched) c.row_under.ensures.watched;
  row = row_done c.args.store.now v c.fill.new.seat c.look.new.seat c.look.new.seat c.args.s c.args.rec.number c.loop-number.number (c.args.rec.number / 256) (c.args.rec.number / 256 * c.args.store.now.layout.limits.tails + c.loop-number.number) 0 p.host p.opened c.loop-number-test.true refl refl c.in-Row.nulls c.fill.new.patch c.look.new.patch c.row_under.result (c.in-Partly.ensures.filled v (c.loop-number.invariant.goes v p)).walk c.in-Row.ensures.visited
      (λ d at. c.row_under.ensures.row d (at_same c.look.new.seat.view c.args.s (c.args.rec.number / 256 * c.args.store.now.layout.limits.tails + c.loop-number.number) c.tail_of-tail.result d (sym c.tail_of-tail.ensures) (at_on c.fill.new.seat.view c.look.new.seat.view c.args.s (c.args.rec.number / 256 * c.args.store.now.layout.limits.tails + c.loop-number.number) d c.look.ensures.watched at)));
  walk = row_walked c.args.store.now v c.fill.new.seat c.look.new.seat c.row_under.new.seat c.args.s c.args.rec.number c.loop-number.number (c.args.rec.number / 256) (c.args.rec.number / 256 * c.args.store.now.layout.limits.tails + c.loop-number.number) 0 p.host p.opened c.loop-number-test.true refl refl c.in-Row.nulls c.fill.new.patch c.look.new.patch c.row_under.result (c.in-Partly.ensures.filled v (c.loop-number.invariant.goes v p)).walk c.look.ensures.watched c.in-Row.ensures.visited c.look.ensures.resolved c.row_under.ensures.watched
      (λ d at. c.row_under.ensures.row d (at_same c.look.new.seat.view c.args.s (c.args.rec.number / 256 * c.args.store.now.layout.limits.tails + c.loop-number.number) c.tail_of-tail.result d (sym c.tail_of-tail.ensures) (at_on c.fill.new.seat.view c.look.new.seat.view c.args.s (c.args.rec.number / 256 * c.args.store.now.layout.limits.tails + c.loop-number.number) d c.look.ensures.watched at)));
  saves = rows_held c.args.store.now v c.fill.new.seat c.row_under.new.seat.view c.args.s c.args.rec.number c.loop-number.number c.put_entries.new.entries c.fill.new.patch (c.in-Partly.ensures.filled v (c.loop-number.invariant.goes v p)) (watched_on c.fill.new.seat.view c.look.new.seat.view c.row_under.new.seat.view c.args.s c.look.ensures.watched c.row_under.ensures.watched) (high_column c.args.store.now v c.fill.new.seat c.args.s c.args.rec.number c.loop-number.number c.put_entries.new.entries c.fill.new.patch (c.in-Partly.ensures.filled v (c.loop-number.invariant.goes v p)) (unset_still c.loop-number.patch c.fill.new.patch c.loop-number.invariant.unset c.in-Partly.ensures.sets.0) c.in-Partly.ensures.sets.1) (c.args.rec.number / 256) (c.args.rec.number / 256 * c.args.store.now.layout.limits.tails + c.loop-number.number) refl refl (loads_tail c.fill.new.seat.view c.look.new.seat.view c.row_under.new.seat.view c.args.s c.tail_of-tail.result (c.args.rec.number / 256 * c.args.store.now.layout.limits.tails + c.loop-number.number) c.tail_of-tail.ensures c.look.ensures.loads c.row_under.ensures.loads);
}

pub returns-in-NoRow-clause-told : goal.returns-in-NoRow-clause-told
returns-in-NoRow-clause-told c = λ v p. record {
  watched = watched_on v c.fill.new.seat.view c.look.new.seat.view c.args.s (watched_on v c.loop-number.seat.view c.fill.new.seat.view c.args.s (c.loop-number.invariant.goes v p).walk.watched c.fill.ensures.skims.watched) c.look.ensures.watched;
  row = row_gone c.args.store.now v c.fill.new.seat c.look.new.seat c.look.new.seat c.args.s c.args.rec.number c.loop-number.number (c.args.rec.number / 256) (c.args.rec.number / 256 * c.args.store.now.layout.limits.tails + c.loop-number.number) 0 p.host p.opened c.loop-number-test.true refl refl c.fill.new.patch c.look.new.patch (c.in-Partly.ensures.filled v (c.loop-number.invariant.goes v p)).walk c.in-NoRow.ensures.visited;
  walk = gone_walked c.args.store.now v c.fill.new.seat c.look.new.seat c.look.new.seat c.args.s c.args.rec.number c.loop-number.number (c.args.rec.number / 256) (c.args.rec.number / 256 * c.args.store.now.layout.limits.tails + c.loop-number.number) 0 p.host p.opened c.loop-number-test.true refl refl c.fill.new.patch c.look.new.patch (c.in-Partly.ensures.filled v (c.loop-number.invariant.goes v p)).walk c.look.ensures.watched c.in-NoRow.ensures.visited c.look.ensures.resolved (watched_same c.look.new.seat.view c.args.s);
  saves = rows_held c.args.store.now v c.fill.new.seat c.look.new.seat.view c.args.s c.args.rec.number c.loop-number.number c.put_entries.new.entries c.fill.new.patch (c.in-Partly.ensures.filled v (c.loop-number.invariant.goes v p)) c.look.ensures.watched (high_column c.args.store.now v c.fill.new.seat c.args.s c.args.rec.number c.loop-number.number c.put_entries.new.entries c.fill.new.patch (c.in-Partly.ensures.filled v (c.loop-number.invariant.goes v p)) (unset_still c.loop-number.patch c.fill.new.patch c.loop-number.invariant.unset c.in-Partly.ensures.sets.0) c.in-Partly.ensures.sets.1) (c.args.rec.number / 256) (c.args.rec.number / 256 * c.args.store.now.layout.limits.tails + c.loop-number.number) refl refl c.look.ensures.loads;
}

pub loop-number-init : goal.loop-number-init
loop-number-init c = let l = ap (λ (y : Layout). y.limits.columns) c.layout.ensures in let few = c.args.store.now.layout.valid.columns.1 in
    let is = take_same c.layout.result.now.limits.columns 8 None (omega arith) ∙ ap (λ (n : ℕ). replicate n None) l in record {
      goes = λ v p. walked_start c.args.store.now v c.args.seat.now c.put_entries.new.seat c.args.s c.args.rec.number c.args.number c.put_entries.new.entries _ is p c.put_entries.ensures.takes;
      unset = ap (list_all is_some) is ∙ none_set c.args.store.now.layout.limits.columns c.args.store.now.layout.valid.columns.0;
      held = none_known 0 _ refl;
    }

pub loop-number-preserved : goal.loop-number-preserved
loop-number-preserved c = let q = at_number c.args.store.now c.fill.new.seat c.args.s c.args.rec.number c.loop-number.number (c.in-Partly.ensures.filled c.requires.walk.0 (c.loop-number.invariant.goes c.requires.walk.0 c.requires.walk.1)).walk.reader (c.in-Partly.ensures.filled c.requires.walk.0 (c.loop-number.invariant.goes c.requires.walk.0 c.requires.walk.1)).walk.versions (c.in-Partly.ensures.filled c.requires.walk.0 (c.loop-number.invariant.goes c.requires.walk.0 c.requires.walk.1)).walk.chain c.loop-number-test.true (c.args.rec.number / 256) (c.args.rec.number / 256 * c.args.store.now.layout.limits.tails + c.loop-number.number) refl refl in record {
  goes = λ v p. rows_next c.args.store.now v c.fill.new.seat c.look.new.seat c.below_from-number.new.seat c.args.s c.args.rec.number c.loop-number.number (c.args.rec.number / 256) (c.args.rec.number / 256 * c.args.store.now.layout.limits.tails + c.loop-number.number) c.below_from-number.result c.loop-number-test.true refl refl c.put_entries.new.entries c.fill.new.patch c.look.new.patch (c.in-Partly.ensures.filled v (c.loop-number.invariant.goes v p)) (high_column c.args.store.now v c.fill.new.seat c.args.s c.args.rec.number c.loop-number.number c.put_entries.new.entries c.fill.new.patch (c.in-Partly.ensures.filled v (c.loop-number.invariant.goes v p)) (unset_still c.loop-number.patch c.fill.new.patch c.loop-number.invariant.unset c.in-Partly.ensures.sets.0) c.in-Partly.ensures.sets.1) c.look.ensures.watched (c.look.auto.patch ∙ (c.in-Partly.ensures.filled v (c.loop-number.invariant.goes v p)).walk.wide) c.in-Older.ensures.visited c.look.ensures.resolved
      (reader_on c.args.store.now c.look.new.seat c.below_from-number.new.seat c.args.s c.look.ensures.reader c.below_from-number.ensures.watched c.below_from-number.ensures.seat) c.below_from-number.ensures.watched
      (λ d at. back_at c.look.new.seat.view c.args.s c.tail_of-tail.result c.below_from-number.result d c.below_from-number.ensures.back (at_same c.look.new.seat.view c.args.s (c.args.rec.number / 256 * c.args.store.now.layout.limits.tails + c.loop-number.number) c.tail_of-tail.result d (sym c.tail_of-tail.ensures) (at_on c.fill.new.seat.view c.look.new.seat.view c.args.s (c.args.rec.number / 256 * c.args.store.now.layout.limits.tails + c.loop-number.number) d c.look.ensures.watched at)))
      c.in-Older.ensures.leaves c.look.ensures.loads c.tail_of-tail.result c.tail_of-tail.ensures c.below_from-number.ensures.loads;
  held = c.look.ensures.set;
  unset = unset_still c.fill.new.patch c.look.new.patch (unset_still c.loop-number.patch c.fill.new.patch c.loop-number.invariant.unset c.in-Partly.ensures.sets.0) (c.in-Older.ensures.leaves q.0 q.3).1;
}

pub returns-clause-reader : goal.returns-clause-reader
returns-clause-reader c = (c.loop-number.invariant.goes c.requires.walk.0 c.requires.walk.1).walk.reader

pub look-requires-clause-set : goal.look-requires-clause-set
look-requires-clause-set c = c.in-Partly.ensures.set c.loop-number.invariant.held

pub first_after-first-requires-clause-range : goal.first_after-first-requires-clause-range
first_after-first-requires-clause-range c = range_low c.args.store.now.layout.limits c.args.rec.number (c.args.rec.number / 256) c.requires.rec refl

pub first_after-first-requires-clause-number : goal.first_after-first-requires-clause-number
first_after-first-requires-clause-number c = (c.loop-number-test.true, number_few c.args.store.now c.fill.new.seat c.args.s c.args.rec.number c.loop-number.number (c.in-Partly.ensures.filled c.requires.walk.0 (c.loop-number.invariant.goes c.requires.walk.0 c.requires.walk.1)).walk.reader (c.in-Partly.ensures.filled c.requires.walk.0 (c.loop-number.invariant.goes c.requires.walk.0 c.requires.walk.1)).walk.versions (c.in-Partly.ensures.filled c.requires.walk.0 (c.loop-number.invariant.goes c.requires.walk.0 c.requires.walk.1)).walk.chain c.loop-number-test.true)

pub row_under-requires-clause-first : goal.row_under-requires-clause-first
row_under-requires-clause-first c = c.first_after-first.ensures ∙ ap (λ (t : ℕ). address c.args.store.now.layout.limits (CellWord t 0)) (sym c.tail_of-tail.ensures)

pub below_from-number-requires-clause-first : goal.below_from-number-requires-clause-first
below_from-number-requires-clause-first c = c.first_after-first.ensures ∙ ap (λ (t : ℕ). address c.args.store.now.layout.limits (CellWord t 0)) (sym c.tail_of-tail.ensures)

pub first_word-start-requires-clause-range : goal.first_word-start-requires-clause-range
first_word-start-requires-clause-range c = range_low c.args.store.now.layout.limits c.args.rec.number (c.args.rec.number / 256) c.requires.rec refl

pub first_word-start-requires-clause-number : goal.first_word-start-requires-clause-number
first_word-start-requires-clause-number c = (omega arith, c.args.store.now.layout.valid.tails.0)

pub put_entries-requires-clause-reader : goal.put_entries-requires-clause-reader
put_entries-requires-clause-reader c = c.requires.reader

pub put_entries-requires-clause-rec : goal.put_entries-requires-clause-rec
put_entries-requires-clause-rec c = c.requires.rec

pub fill-requires-clause-number : goal.fill-requires-clause-number
fill-requires-clause-number c = c.loop-number-test.true

pub returns-in-Absent-clause-reader : goal.returns-in-Absent-clause-reader
returns-in-Absent-clause-reader c = c.fill.ensures.reader

pub returns-in-Whole-clause-reader : goal.returns-in-Whole-clause-reader
returns-in-Whole-clause-reader c = c.fill.ensures.reader

pub first_after-first-requires-clause-start : goal.first_after-first-requires-clause-start
first_after-first-requires-clause-start c = c.first_word-start.ensures

pub look-requires-clause-first : goal.look-requires-clause-first
look-requires-clause-first c = c.first_after-first.ensures

pub row_under-requires-clause-reader : goal.row_under-requires-clause-reader
row_under-requires-clause-reader c = c.look.ensures.reader

pub returns-in-Row-clause-reader : goal.returns-in-Row-clause-reader
returns-in-Row-clause-reader c = c.row_under.ensures.reader

pub returns-in-NoRow-clause-reader : goal.returns-in-NoRow-clause-reader
returns-in-NoRow-clause-reader c = c.look.ensures.reader

pub below_from-number-requires-clause-seat : goal.below_from-number-requires-clause-seat
below_from-number-requires-clause-seat c = c.look.ensures.reader.seat_of

pub below_from-number-requires-clause-host : goal.below_from-number-requires-clause-host
below_from-number-requires-clause-host c = c.look.ensures.reader.host
