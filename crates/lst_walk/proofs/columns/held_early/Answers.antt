use Rattle.std.proofs.Common.{ℕ, ◌*◌, ◌+◌, sym, ap, ◌∙◌}
use Rattle.lst_layout.specs.declared.place.Place.TheVariants.{CellWord}
use Rattle.lst_layout.specs.Addresses.{address}
use Rattle.lst_rule.specs.Rule.{knows}
use Rattle.lst_rule.proofs.Finds.{loads_tail}
use Rattle.lst_walk.proofs.Reading.{at_on, version_on, watched_on}
use Rattle.lst_walk.proofs.Stamping.{at_same, has_same}
use Rattle.lst_walk.proofs.Resolving.{resolves_later}
use Rattle.lst_walk.proofs.Walking.{seen_tells}
use Rattle.lst_walk.proofs.columns.held_early.Goals as goal

pub told-requires-clause-reader : goal.told-requires-clause-reader
told-requires-clause-reader c = c.is_seen_early.ensures.reader

pub told-requires-clause-version : goal.told-requires-clause-version
told-requires-clause-version c = has_same c.is_seen_early.new.seat.view c.args.s _ c.tail_of.result (sym c.tail_of.ensures) (version_on c.args.seat.now.view c.is_seen_early.new.seat.view c.args.s _ c.is_seen_early.ensures.watched c.requires.version)

pub told-requires-clause-first : goal.told-requires-clause-first
told-requires-clause-first c = c.requires.first ∙ ap (λ (t : ℕ). address c.args.store.now.layout.limits (CellWord t 0)) (sym c.tail_of.ensures)

pub returns-then-is_seen_early-clause-watched : goal.returns-then-is_seen_early-clause-watched
returns-then-is_seen_early-clause-watched c = watched_on c.args.seat.now.view c.is_seen_early.new.seat.view c.told.new.seat.view c.args.s c.is_seen_early.ensures.watched c.told.ensures.watched

pub returns-then-is_seen_early-clause-tells : goal.returns-then-is_seen_early-clause-tells
returns-then-is_seen_early-clause-tells c = λ told is d at. seen_tells (knows c.args.seat.now.view c.args.s) c.args.s d c.args.store.now.layout.limits.columns c.args.column c.told.result (c.is_seen_early.ensures.seen c.if-is_seen_early.true d at) (c.told.ensures.told d (at_same c.is_seen_early.new.seat.view c.args.s _ c.tail_of.result d (sym c.tail_of.ensures) (at_on c.args.seat.now.view c.is_seen_early.new.seat.view c.args.s _ d c.is_seen_early.ensures.watched at)))

pub returns-then-is_seen_early-clause-resolved : goal.returns-then-is_seen_early-clause-resolved
returns-then-is_seen_early-clause-resolved c = λ told is. resolves_later c.args.seat.now.view c.is_seen_early.new.seat.view c.told.new.seat.view c.args.s c.args.range c.args.number c.told.ensures.watched (c.is_seen_early.ensures.resolved c.if-is_seen_early.true)

pub returns-then-is_seen_early-clause-loads : goal.returns-then-is_seen_early-clause-loads
returns-then-is_seen_early-clause-loads c = loads_tail c.args.seat.now.view c.is_seen_early.new.seat.view c.told.new.seat.view c.args.s c.tail_of.result (c.args.range * c.args.store.now.layout.limits.tails + c.args.number) c.tail_of.ensures c.is_seen_early.ensures.loads c.told.ensures.loads
