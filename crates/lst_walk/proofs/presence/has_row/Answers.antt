use Rattle.std.proofs.Common.{ℕ, refl, sym, subst}
use Rattle.std.specs.Prelude.{Option}
use Rattle.lst_rule.proofs.Watching.{watched_same}
use Rattle.lst_walk.specs.Newest.{IsNewest, LoadsNewest}
use Rattle.lst_walk.proofs.Newest.{newest_version, newest_row, no_row}
use Rattle.lst_walk.proofs.presence.has_row.Goals as goal

pub leaves_row-requires-clause-version : goal.leaves_row-requires-clause-version
leaves_row-requires-clause-version c = newest_version c.args.seat.now.view c.args.s c.args.rec.number c.in-Some.tail (subst (λ (o : Option ℕ). IsNewest c.args.seat.now.view c.args.s c.args.rec.number o) c.in-Some.is c.requires.newest)

pub returns-in-Some-clause-row : goal.returns-in-Some-clause-row
returns-in-Some-clause-row c = newest_row c.args.seat.now.view c.args.s c.args.rec.number c.in-Some.tail (subst (λ (o : Option ℕ). IsNewest c.args.seat.now.view c.args.s c.args.rec.number o) c.in-Some.is c.requires.newest)
    c.consider.ensures c.requires.host c.requires.opened c.leaves_row.result c.leaves_row.ensures.leaves

pub returns-in-Some-clause-loads : goal.returns-in-Some-clause-loads
returns-in-Some-clause-loads c = subst (λ (o : Option ℕ). LoadsNewest c.args.seat.now.view c.leaves_row.new.seat.view c.args.s o) (sym c.in-Some.is) c.leaves_row.ensures.loads

pub returns-in-None-clause-row : goal.returns-in-None-clause-row
returns-in-None-clause-row c = no_row c.args.seat.now.view c.args.s c.args.rec.number (subst (λ (o : Option ℕ). IsNewest c.args.seat.now.view c.args.s c.args.rec.number o) c.in-None.is c.requires.newest)

pub returns-in-None-clause-watched : goal.returns-in-None-clause-watched
returns-in-None-clause-watched c = watched_same c.args.seat.now.view c.args.s

pub returns-in-None-clause-loads : goal.returns-in-None-clause-loads
returns-in-None-clause-loads c = subst (λ (o : Option ℕ). LoadsNewest c.args.seat.now.view c.args.seat.now.view c.args.s o) (sym c.in-None.is) refl
