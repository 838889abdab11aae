use Rattle.std.proofs.Common.{◌*◌, ◌+◌, ◌/◌, refl, arith}
use Rattle.lst_rule.proofs.Watching.{watched_same}
use Rattle.lst_rule.proofs.Finds.{loads_none}
use Rattle.lst_walk.specs.Chains.{IsTailOf}
use Rattle.lst_walk.proofs.Ahead.{ahead_stays, loads_more, loads_then}
use Rattle.lst_walk.proofs.Reading.{watched_on}
use Rattle.lst_walk.proofs.Walking.{number_few, tail_number, version_number, range_low, cell_done, cell_over, cell_walked, cell_ended}
use Rattle.lst_walk.proofs.columns.column_from.Goals as goal

pub returns-then-number-eq0-clause-watched : goal.returns-then-number-eq0-clause-watched
returns-then-number-eq0-clause-watched c = watched_same c.args.seat.now.view c.args.s

pub returns-then-number-eq0-clause-told : goal.returns-then-number-eq0-clause-told
returns-then-number-eq0-clause-told c = λ v p. record {
  cell = cell_over c.args.store.now v c.args.seat.now c.args.s c.args.rec.number c.args.c c.args.number (let z = c.if-number-eq0.true in omega arith) p.walk;
  walk = cell_ended c.args.store.now v c.args.seat.now c.args.s c.args.rec.number c.args.c c.args.number (let z = c.if-number-eq0.true in omega arith) p.walk;
}

pub first_after-first-requires-clause-range : goal.first_after-first-requires-clause-range
first_after-first-requires-clause-range c = range_low c.args.store.now.layout.limits c.args.rec.number (c.args.rec.number / 256) c.requires.rec refl

pub first_after-first-requires-clause-number : goal.first_after-first-requires-clause-number
first_after-first-requires-clause-number c = ((let some = c.if-number-eq0.false in omega arith), number_few c.args.store.now c.args.seat.now c.args.s c.args.rec.number c.args.number c.requires.walk.1.walk.reader c.requires.walk.1.walk.versions c.requires.walk.1.walk.chain (let some = c.if-number-eq0.false in omega arith))

pub held_early-requires-clause-range : goal.held_early-requires-clause-range
held_early-requires-clause-range c = range_low c.args.store.now.layout.limits c.args.rec.number (c.args.rec.number / 256) c.requires.rec refl

pub held_early-requires-clause-number : goal.held_early-requires-clause-number
held_early-requires-clause-number c = ((let some = c.if-number-eq0.false in omega arith), number_few c.args.store.now c.args.seat.now c.args.s c.args.rec.number c.args.number c.requires.walk.1.walk.reader c.requires.walk.1.walk.versions c.requires.walk.1.walk.chain (let some = c.if-number-eq0.false in omega arith))

pub held_early-requires-clause-version : goal.held_early-requires-clause-version
held_early-requires-clause-version c = version_number c.args.store.now c.args.seat.now c.args.s c.args.rec.number c.args.number c.requires.walk.1.walk.reader c.requires.walk.1.walk.versions c.requires.walk.1.walk.chain (let some = c.if-number-eq0.false in omega arith) (c.args.rec.number / 256) (c.args.rec.number / 256 * c.args.store.now.layout.limits.tails + c.args.number) refl refl

pub returns-in-Some-clause-told : goal.returns-in-Some-clause-told
returns-in-Some-clause-told c = λ v p. record {
  cell = cell_done c.args.store.now v c.args.seat.now c.held_early.new.seat c.held_early.new.seat c.args.s c.args.rec.number c.args.number (c.args.rec.number / 256) (c.args.rec.number / 256 * c.args.store.now.layout.limits.tails + c.args.number) 0 p.host p.opened (let some = c.if-number-eq0.false in omega arith) refl refl c.args.c c.in-Some.held p.walk (c.in-Some.ensures.tells c.in-Some.held refl);
  walk = cell_walked c.args.store.now v c.args.seat.now c.held_early.new.seat c.held_early.new.seat c.args.s c.args.rec.number c.args.number (c.args.rec.number / 256) (c.args.rec.number / 256 * c.args.store.now.layout.limits.tails + c.args.number) 0 p.host p.opened (let some = c.if-number-eq0.false in omega arith) refl refl c.args.c c.in-Some.held p.walk c.held_early.ensures.watched (c.in-Some.ensures.tells c.in-Some.held refl) (c.in-Some.ensures.resolved c.in-Some.held refl) (watched_same c.held_early.new.seat.view c.args.s);
}

pub returns-in-Some-clause-quiet : goal.returns-in-Some-clause-quiet
returns-in-Some-clause-quiet c = λ none. absurd (c.if-number-eq0.false none)

pub column_on-requires-clause-walk : goal.column_on-requires-clause-walk
column_on-requires-clause-walk c = (c.requires.walk.0, ahead_stays c.args.store.now c.requires.walk.0 c.args.seat.now c.held_early.new.seat c.args.s c.args.rec.number c.args.c c.args.number c.held_early.ensures.watched c.held_early.ensures.reader c.requires.walk.1)

pub returns-clause-watched : goal.returns-clause-watched
returns-clause-watched c = watched_on c.args.seat.now.view c.held_early.new.seat.view c.column_on.new.seat.view c.args.s c.held_early.ensures.watched c.column_on.ensures.watched

pub returns-clause-told : goal.returns-clause-told
returns-clause-told c = λ v p. c.column_on.ensures.told v (ahead_stays c.args.store.now v c.args.seat.now c.held_early.new.seat c.args.s c.args.rec.number c.args.c c.args.number c.held_early.ensures.watched c.held_early.ensures.reader p)

pub returns-clause-quiet : goal.returns-clause-quiet
returns-clause-quiet c = λ none. absurd (c.if-number-eq0.false none)

pub returns-then-number-eq0-clause-loads : goal.returns-then-number-eq0-clause-loads
returns-then-number-eq0-clause-loads c = loads_none (IsTailOf c.args.seat.now.view c.args.s c.args.rec.number) c.args.seat.now.view c.args.seat.now.view c.args.s refl

pub returns-in-Some-clause-loads : goal.returns-in-Some-clause-loads
returns-in-Some-clause-loads c = loads_more c.args.seat.now.view c.args.seat.now.view c.held_early.new.seat.view c.args.s c.args.rec.number (c.args.rec.number / 256 * c.args.store.now.layout.limits.tails + c.args.number)
    (loads_none (IsTailOf c.args.seat.now.view c.args.s c.args.rec.number) c.args.seat.now.view c.args.seat.now.view c.args.s refl)
    (tail_number c.args.store.now c.args.seat.now c.args.s c.args.rec.number c.args.number c.requires.walk.1.walk.reader c.requires.walk.1.walk.versions c.requires.walk.1.walk.chain (let some = c.if-number-eq0.false in omega arith) (c.args.rec.number / 256) (c.args.rec.number / 256 * c.args.store.now.layout.limits.tails + c.args.number) refl refl) c.held_early.ensures.loads c.held_early.ensures.watched

pub returns-clause-loads : goal.returns-clause-loads
returns-clause-loads c = loads_then c.args.seat.now.view c.held_early.new.seat.view c.column_on.new.seat.view c.args.s c.args.rec.number
    (loads_more c.args.seat.now.view c.args.seat.now.view c.held_early.new.seat.view c.args.s c.args.rec.number (c.args.rec.number / 256 * c.args.store.now.layout.limits.tails + c.args.number)
    (loads_none (IsTailOf c.args.seat.now.view c.args.s c.args.rec.number) c.args.seat.now.view c.args.seat.now.view c.args.s refl)
    (tail_number c.args.store.now c.args.seat.now c.args.s c.args.rec.number c.args.number c.requires.walk.1.walk.reader c.requires.walk.1.walk.versions c.requires.walk.1.walk.chain (let some = c.if-number-eq0.false in omega arith) (c.args.rec.number / 256) (c.args.rec.number / 256 * c.args.store.now.layout.limits.tails + c.args.number) refl refl) c.held_early.ensures.loads c.held_early.ensures.watched)
    c.column_on.ensures.loads c.column_on.ensures.watched
