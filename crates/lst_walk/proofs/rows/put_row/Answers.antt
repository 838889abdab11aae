use Rattle.std.proofs.Common.{refl, arith, inr}
use Rattle.lst_walk.proofs.Reading.{watched_on}
use Rattle.lst_walk.proofs.Walking.{row_start, row_over, row_ended}
use Rattle.lst_walk.proofs.Straight.{paged_start, paged_stays}
use Rattle.lst_walk.proofs.rows.put_row.Goals as goal

pub head-number-requires-clause-reader : goal.head-number-requires-clause-reader
head-number-requires-clause-reader c = record { seat_of = c.requires.seat; host = c.requires.host; own = c.requires.own; opened = c.requires.opened }

pub paged-requires-clause-walk : goal.paged-requires-clause-walk
paged-requires-clause-walk c = (
  c.args.seat.now.view,
  paged_start c.args.store.now c.args.seat.now.view c.head-number.new.seat c.args.s c.args.rec.number c.head-number.result c.head-number.ensures.looked.0 c.requires.host c.requires.opened
      (row_start c.args.store.now c.args.seat.now.view c.head-number.new.seat c.args.s c.args.rec.number c.head-number.result c.consider.ensures c.requires.host c.requires.opened c.head-number.ensures.reader c.head-number.ensures.watched c.head-number.ensures.possible c.head-number.ensures.chain _ refl)
      c.head-number.ensures.looked.1 c.head-number.ensures.looked.2 (let z = c.if-number-eq0.false in omega arith),
)

pub put_walked-requires-clause-walk : goal.put_walked-requires-clause-walk
put_walked-requires-clause-walk c = (
  c.args.seat.now.view,
  paged_stays c.args.store.now c.args.seat.now.view c.head-number.new.seat c.paged.new.seat c.args.s c.args.rec.number c.head-number.result (paged_start c.args.store.now c.args.seat.now.view c.head-number.new.seat c.args.s c.args.rec.number c.head-number.result c.head-number.ensures.looked.0 c.requires.host c.requires.opened
      (row_start c.args.store.now c.args.seat.now.view c.head-number.new.seat c.args.s c.args.rec.number c.head-number.result c.consider.ensures c.requires.host c.requires.opened c.head-number.ensures.reader c.head-number.ensures.watched c.head-number.ensures.possible c.head-number.ensures.chain _ refl)
      c.head-number.ensures.looked.1 c.head-number.ensures.looked.2 (let z = c.if-number-eq0.false in omega arith)) c.paged.ensures.skims c.paged.ensures.reader,
)

pub returns-then-paged-clause-watched : goal.returns-then-paged-clause-watched
returns-then-paged-clause-watched c = watched_on c.args.seat.now.view c.head-number.new.seat.view c.paged.new.seat.view c.args.s c.head-number.ensures.watched c.paged.ensures.skims.watched

pub returns-then-paged-clause-row : goal.returns-then-paged-clause-row
returns-then-paged-clause-row c = (c.paged.ensures.told c.if-paged.true c.args.seat.now.view (paged_start c.args.store.now c.args.seat.now.view c.head-number.new.seat c.args.s c.args.rec.number c.head-number.result c.head-number.ensures.looked.0 c.requires.host c.requires.opened
    (row_start c.args.store.now c.args.seat.now.view c.head-number.new.seat c.args.s c.args.rec.number c.head-number.result c.consider.ensures c.requires.host c.requires.opened c.head-number.ensures.reader c.head-number.ensures.watched c.head-number.ensures.possible c.head-number.ensures.chain _ refl)
    c.head-number.ensures.looked.1 c.head-number.ensures.looked.2 (let z = c.if-number-eq0.false in omega arith))).row

pub returns-then-paged-clause-walk : goal.returns-then-paged-clause-walk
returns-then-paged-clause-walk c = (c.paged.ensures.told c.if-paged.true c.args.seat.now.view (paged_start c.args.store.now c.args.seat.now.view c.head-number.new.seat c.args.s c.args.rec.number c.head-number.result c.head-number.ensures.looked.0 c.requires.host c.requires.opened
    (row_start c.args.store.now c.args.seat.now.view c.head-number.new.seat c.args.s c.args.rec.number c.head-number.result c.consider.ensures c.requires.host c.requires.opened c.head-number.ensures.reader c.head-number.ensures.watched c.head-number.ensures.possible c.head-number.ensures.chain _ refl)
    c.head-number.ensures.looked.1 c.head-number.ensures.looked.2 (let z = c.if-number-eq0.false in omega arith))).walk

pub returns-then-paged-clause-saves : goal.returns-then-paged-clause-saves
returns-then-paged-clause-saves c = λ pinned. inr ((c.paged.ensures.told c.if-paged.true c.args.seat.now.view (paged_start c.args.store.now c.args.seat.now.view c.head-number.new.seat c.args.s c.args.rec.number c.head-number.result c.head-number.ensures.looked.0 c.requires.host c.requires.opened
    (row_start c.args.store.now c.args.seat.now.view c.head-number.new.seat c.args.s c.args.rec.number c.head-number.result c.consider.ensures c.requires.host c.requires.opened c.head-number.ensures.reader c.head-number.ensures.watched c.head-number.ensures.possible c.head-number.ensures.chain _ refl)
    c.head-number.ensures.looked.1 c.head-number.ensures.looked.2 (let z = c.if-number-eq0.false in omega arith))).saves)

pub returns-clause-watched : goal.returns-clause-watched
returns-clause-watched c = (c.put_walked.ensures.told c.args.seat.now.view (paged_stays c.args.store.now c.args.seat.now.view c.head-number.new.seat c.paged.new.seat c.args.s c.args.rec.number c.head-number.result (paged_start c.args.store.now c.args.seat.now.view c.head-number.new.seat c.args.s c.args.rec.number c.head-number.result c.head-number.ensures.looked.0 c.requires.host c.requires.opened
    (row_start c.args.store.now c.args.seat.now.view c.head-number.new.seat c.args.s c.args.rec.number c.head-number.result c.consider.ensures c.requires.host c.requires.opened c.head-number.ensures.reader c.head-number.ensures.watched c.head-number.ensures.possible c.head-number.ensures.chain _ refl)
    c.head-number.ensures.looked.1 c.head-number.ensures.looked.2 (let z = c.if-number-eq0.false in omega arith)) c.paged.ensures.skims c.paged.ensures.reader)).watched

pub returns-clause-row : goal.returns-clause-row
returns-clause-row c = (c.put_walked.ensures.told c.args.seat.now.view (paged_stays c.args.store.now c.args.seat.now.view c.head-number.new.seat c.paged.new.seat c.args.s c.args.rec.number c.head-number.result (paged_start c.args.store.now c.args.seat.now.view c.head-number.new.seat c.args.s c.args.rec.number c.head-number.result c.head-number.ensures.looked.0 c.requires.host c.requires.opened
    (row_start c.args.store.now c.args.seat.now.view c.head-number.new.seat c.args.s c.args.rec.number c.head-number.result c.consider.ensures c.requires.host c.requires.opened c.head-number.ensures.reader c.head-number.ensures.watched c.head-number.ensures.possible c.head-number.ensures.chain _ refl)
    c.head-number.ensures.looked.1 c.head-number.ensures.looked.2 (let z = c.if-number-eq0.false in omega arith)) c.paged.ensures.skims c.paged.ensures.reader)).row

pub returns-clause-walk : goal.returns-clause-walk
returns-clause-walk c = (c.put_walked.ensures.told c.args.seat.now.view (paged_stays c.args.store.now c.args.seat.now.view c.head-number.new.seat c.paged.new.seat c.args.s c.args.rec.number c.head-number.result (paged_start c.args.store.now c.args.seat.now.view c.head-number.new.seat c.args.s c.args.rec.number c.head-number.result c.head-number.ensures.looked.0 c.requires.host c.requires.opened
    (row_start c.args.store.now c.args.seat.now.view c.head-number.new.seat c.args.s c.args.rec.number c.head-number.result c.consider.ensures c.requires.host c.requires.opened c.head-number.ensures.reader c.head-number.ensures.watched c.head-number.ensures.possible c.head-number.ensures.chain _ refl)
    c.head-number.ensures.looked.1 c.head-number.ensures.looked.2 (let z = c.if-number-eq0.false in omega arith)) c.paged.ensures.skims c.paged.ensures.reader)).walk

pub returns-clause-saves : goal.returns-clause-saves
returns-clause-saves c = λ pinned. inr ((c.put_walked.ensures.told c.args.seat.now.view (paged_stays c.args.store.now c.args.seat.now.view c.head-number.new.seat c.paged.new.seat c.args.s c.args.rec.number c.head-number.result (paged_start c.args.store.now c.args.seat.now.view c.head-number.new.seat c.args.s c.args.rec.number c.head-number.result c.head-number.ensures.looked.0 c.requires.host c.requires.opened
    (row_start c.args.store.now c.args.seat.now.view c.head-number.new.seat c.args.s c.args.rec.number c.head-number.result c.consider.ensures c.requires.host c.requires.opened c.head-number.ensures.reader c.head-number.ensures.watched c.head-number.ensures.possible c.head-number.ensures.chain _ refl)
    c.head-number.ensures.looked.1 c.head-number.ensures.looked.2 (let z = c.if-number-eq0.false in omega arith)) c.paged.ensures.skims c.paged.ensures.reader)).saves pinned)

pub returns-then-number-eq0-clause-row : goal.returns-then-number-eq0-clause-row
returns-then-number-eq0-clause-row c = row_over c.args.store.now c.args.seat.now.view c.head-number.new.seat c.args.s c.args.rec.number c.head-number.result _ (let z = c.if-number-eq0.true in omega arith) (row_start c.args.store.now c.args.seat.now.view c.head-number.new.seat c.args.s c.args.rec.number c.head-number.result c.consider.ensures c.requires.host c.requires.opened c.head-number.ensures.reader c.head-number.ensures.watched c.head-number.ensures.possible c.head-number.ensures.chain _ refl)

pub returns-then-number-eq0-clause-walk : goal.returns-then-number-eq0-clause-walk
returns-then-number-eq0-clause-walk c = row_ended c.args.store.now c.args.seat.now.view c.head-number.new.seat c.args.s c.args.rec.number c.head-number.result _ (let z = c.if-number-eq0.true in omega arith) (row_start c.args.store.now c.args.seat.now.view c.head-number.new.seat c.args.s c.args.rec.number c.head-number.result c.consider.ensures c.requires.host c.requires.opened c.head-number.ensures.reader c.head-number.ensures.watched c.head-number.ensures.possible c.head-number.ensures.chain _ refl)
