use Rattle.std.proofs.Common.{ℕ, ◌*◌, ◌+◌, ◌∙◌, ap, refl, nat_le}
use Rattle.lst_rule.proofs.Finds.{loads_tail}
use Rattle.lst_walk.proofs.Reading.{watched_on, at_on, version_on, sees_on}
use Rattle.lst_walk.proofs.Resolving.{resolves_earlier}
use Rattle.lst_walk.proofs.placed.is_seen_from.Goals as goal

pub returns-in-Some-clause-seen : goal.returns-in-Some-clause-seen
returns-in-Some-clause-seen c = λ d at. ap (λ (n : ℕ). nat_le c.in-Some.time n) c.begin.ensures ∙ c.in-Some.ensures.seen d at

pub is_seen_untimed-requires-clause-version : goal.is_seen_untimed-requires-clause-version
is_seen_untimed-requires-clause-version c = version_on c.args.seat.now.view c.time_from.new.seat.view c.args.s (c.args.range * c.args.store.now.layout.limits.tails + c.args.tail) c.time_from.ensures.watched c.requires.version

pub returns-in-None-clause-watched : goal.returns-in-None-clause-watched
returns-in-None-clause-watched c = watched_on c.args.seat.now.view c.time_from.new.seat.view c.is_seen_untimed.new.seat.view c.args.s c.time_from.ensures.watched c.is_seen_untimed.ensures.watched

pub returns-in-None-clause-loads : goal.returns-in-None-clause-loads
returns-in-None-clause-loads c = let t : ℕ = c.args.range * c.args.store.now.layout.limits.tails + c.args.tail in loads_tail c.args.seat.now.view c.time_from.new.seat.view c.is_seen_untimed.new.seat.view c.args.s t t refl c.time_from.ensures.loads c.is_seen_untimed.ensures.loads

pub returns-in-None-clause-seen : goal.returns-in-None-clause-seen
returns-in-None-clause-seen c = λ d at. c.is_seen_untimed.ensures.seen d (at_on c.args.seat.now.view c.time_from.new.seat.view c.args.s (c.args.range * c.args.store.now.layout.limits.tails + c.args.tail) d c.time_from.ensures.watched at)
    ∙ sees_on c.args.seat.now.view c.time_from.new.seat.view c.args.s d.writer c.consider.ensures c.requires.reader.host c.requires.reader.opened c.time_from.ensures.watched

pub returns-in-None-clause-resolved : goal.returns-in-None-clause-resolved
returns-in-None-clause-resolved c = resolves_earlier c.args.seat.now.view c.time_from.new.seat.view c.is_seen_untimed.new.seat.view c.args.s c.args.range c.args.tail c.time_from.ensures.watched c.is_seen_untimed.ensures.resolved
