use Rattle.std.proofs.Common.{ℕ, sym, ap, ◌∙◌}
use Rattle.lst_rule.specs.Rule.{knows}
use Rattle.lst_walk.proofs.Reading.{at_on, version_on, watched_on}
use Rattle.lst_walk.proofs.Stamping.{at_same, has_same}
use Rattle.lst_walk.proofs.Resolving.{resolves_later}
use Rattle.lst_walk.proofs.Walking.{seen_visited, unseen_visited, seen_row_leaves, unseen_row_leaves}
use Rattle.std.proofs.Common.{◌+◌, ◌*◌}
use Rattle.lst_rule.proofs.Finds.{loads_tail}
use Rattle.lst_layout.specs.declared.place.Place.TheVariants.{CellWord}
use Rattle.lst_layout.specs.Addresses.{address}
use Rattle.lst_walk.proofs.rows.look.Goals as goal

pub acted-requires-clause-reader : goal.acted-requires-clause-reader
acted-requires-clause-reader c = c.is_seen_from.ensures.reader

pub acted-requires-clause-version : goal.acted-requires-clause-version
acted-requires-clause-version c = has_same c.is_seen_from.new.seat.view c.args.s _ c.tail_of.result (sym c.tail_of.ensures) (version_on c.args.seat.now.view c.is_seen_from.new.seat.view c.args.s _ c.is_seen_from.ensures.watched c.requires.version)

pub returns-then-is_seen_from-clause-watched : goal.returns-then-is_seen_from-clause-watched
returns-then-is_seen_from-clause-watched c = watched_on c.args.seat.now.view c.is_seen_from.new.seat.view c.acted.new.seat.view c.args.s c.is_seen_from.ensures.watched c.acted.ensures.watched

pub returns-then-is_seen_from-clause-visited : goal.returns-then-is_seen_from-clause-visited
returns-then-is_seen_from-clause-visited c = λ d at. seen_visited (knows c.args.seat.now.view c.args.s) c.args.s d c.args.store.now.layout.limits.columns c.args.patch.now c.acted.new.patch c.acted.result (sym (c.is_seen_from.ensures.seen d at) ∙ c.if-is_seen_from.true) (c.acted.ensures.acted d (at_same c.is_seen_from.new.seat.view c.args.s _ c.tail_of.result d (sym c.tail_of.ensures) (at_on c.args.seat.now.view c.is_seen_from.new.seat.view c.args.s _ d c.is_seen_from.ensures.watched at)))

pub returns-else-is_seen_from-clause-visited : goal.returns-else-is_seen_from-clause-visited
returns-else-is_seen_from-clause-visited c = λ d at. unseen_visited (knows c.args.seat.now.view c.args.s) c.args.s d c.args.store.now.layout.limits.columns c.args.patch.now (sym (c.is_seen_from.ensures.seen d at) ∙ c.if-is_seen_from.false)

pub returns-then-is_seen_from-clause-resolved : goal.returns-then-is_seen_from-clause-resolved
returns-then-is_seen_from-clause-resolved c = resolves_later c.args.seat.now.view c.is_seen_from.new.seat.view c.acted.new.seat.view c.args.s c.args.range c.args.number c.acted.ensures.watched c.is_seen_from.ensures.resolved

pub returns-then-is_seen_from-clause-leaves : goal.returns-then-is_seen_from-clause-leaves
returns-then-is_seen_from-clause-leaves c = λ d at. seen_row_leaves (knows c.args.seat.now.view c.args.s) c.args.s d c.args.patch.now c.acted.new.patch c.acted.result (c.acted.ensures.leaves d (at_same c.is_seen_from.new.seat.view c.args.s _ c.tail_of.result d (sym c.tail_of.ensures) (at_on c.args.seat.now.view c.is_seen_from.new.seat.view c.args.s _ d c.is_seen_from.ensures.watched at)))

pub returns-else-is_seen_from-clause-leaves : goal.returns-else-is_seen_from-clause-leaves
returns-else-is_seen_from-clause-leaves c = λ d at. unseen_row_leaves (knows c.args.seat.now.view c.args.s) c.args.s d c.args.patch.now (sym (c.is_seen_from.ensures.seen d at) ∙ c.if-is_seen_from.false)

pub returns-then-is_seen_from-clause-loads : goal.returns-then-is_seen_from-clause-loads
returns-then-is_seen_from-clause-loads c = loads_tail c.args.seat.now.view c.is_seen_from.new.seat.view c.acted.new.seat.view c.args.s c.tail_of.result (c.args.range * c.args.store.now.layout.limits.tails + c.args.number) c.tail_of.ensures c.is_seen_from.ensures.loads c.acted.ensures.loads

pub acted-requires-clause-first : goal.acted-requires-clause-first
acted-requires-clause-first c = c.requires.first ∙ ap (λ (t : ℕ). address c.args.store.now.layout.limits (CellWord t 0)) (sym c.tail_of.ensures)
