use Rattle.std.proofs.Common.{◌≡◌, ℕ, ap, ◌∙◌, ◌+◌, ◌*◌, ◌<◌, ◌≤◌, sym, subst}
use Rattle.lst_layout.specs.declared.limits.Limits.{Limits}
use Rattle.lst_layout.specs.declared.place.Place.TheVariants.{CellWord}
use Rattle.lst_layout.specs.Addresses.{address}
use Rattle.lst_rule.specs.Rule.{knows}
use Rattle.lst_rule.specs.Seen.{sees}
use Rattle.lst_rule.specs.Resolutions.{Resolved}
use Rattle.lst_rule.specs.declared.resolutions.Resolution.{Resolution}
use Rattle.lst_walk.specs.Stamping.{sees_by, TimedAs}
use Rattle.lst_walk.proofs.Reading.{watched_on}
use Rattle.lst_walk.proofs.Stamping.{at_same}
use Rattle.lst_walk.proofs.Standing.{committed_of, inside, look_reader, look_watched, look_loads, look_timed, look_seen, may_be_stamped, stamp_few, stamp_reader, stamp_watched, stamp_loads, stamp_timed, stamp_sees}
use Rattle.lst_walk.proofs.placed.resolve_stamped_from.Goals as goal

pub resolve_from-found-requires-clause-place : goal.resolve_from-found-requires-clause-place
resolve_from-found-requires-clause-place c = inside c.args.store.now c.args.seat.now c.args.s c.args.range c.args.tail c.tail_of.result c.requires.reader c.requires.range c.requires.tail c.tail_of.ensures

pub step_stamp-requires-clause-host : goal.step_stamp-requires-clause-host
step_stamp-requires-clause-host c = (look_reader c.args.store.now c.args.seat.now c.args.s c.args.range c.args.tail c.tail_of.result c.requires.reader c.requires.range c.requires.tail c.tail_of.ensures c.resolve_from-found.new.seat c.resolve_from-found.ensures.seat c.consider.ensures c.resolve_from-found.result c.resolve_from-found.ensures.resolved).host

pub step_stamp-requires-clause-own : goal.step_stamp-requires-clause-own
step_stamp-requires-clause-own c = (look_reader c.args.store.now c.args.seat.now c.args.s c.args.range c.args.tail c.tail_of.result c.requires.reader c.requires.range c.requires.tail c.tail_of.ensures c.resolve_from-found.new.seat c.resolve_from-found.ensures.seat c.consider.ensures c.resolve_from-found.result c.resolve_from-found.ensures.resolved).own

pub step_stamp-requires-clause-within : goal.step_stamp-requires-clause-within
step_stamp-requires-clause-within c = let q = look_reader c.args.store.now c.args.seat.now c.args.s c.args.range c.args.tail c.tail_of.result c.requires.reader c.requires.range c.requires.tail c.tail_of.ensures c.resolve_from-found.new.seat c.resolve_from-found.ensures.seat c.consider.ensures c.resolve_from-found.result c.resolve_from-found.ensures.resolved in (q.own, subst (λ (l : Limits). c.args.range < l.ranges) (sym q.seat_of.limits) c.requires.range, c.requires.tail.0, subst (λ (l : Limits). c.args.tail ≤ l.tails) (sym q.seat_of.limits) c.requires.tail.1)

pub step_stamp-requires-clause-stands : goal.step_stamp-requires-clause-stands
step_stamp-requires-clause-stands c = (may_be_stamped c.args.store.now c.args.seat.now c.args.s c.args.range c.args.tail c.tail_of.result c.requires.reader c.requires.range c.requires.tail c.tail_of.ensures c.resolve_from-found.new.seat c.resolve_from-found.ensures.seat c.consider.ensures c.in-Some.time (subst (λ (x : Resolution). Resolved c.args.seat.now.view c.resolve_from-found.new.seat.view c.args.s c.tail_of.result x) (committed_of c.resolve_from-found.result c.in-Some.time (sym c.in-Some.ensures)) c.resolve_from-found.ensures.resolved)).0

pub step_stamp-requires-clause-times : goal.step_stamp-requires-clause-times
step_stamp-requires-clause-times c = (may_be_stamped c.args.store.now c.args.seat.now c.args.s c.args.range c.args.tail c.tail_of.result c.requires.reader c.requires.range c.requires.tail c.tail_of.ensures c.resolve_from-found.new.seat c.resolve_from-found.ensures.seat c.consider.ensures c.in-Some.time (subst (λ (x : Resolution). Resolved c.args.seat.now.view c.resolve_from-found.new.seat.view c.args.s c.tail_of.result x) (committed_of c.resolve_from-found.result c.in-Some.time (sym c.in-Some.ensures)) c.resolve_from-found.ensures.resolved)).1

pub step_stamp-requires-clause-time : goal.step_stamp-requires-clause-time
step_stamp-requires-clause-time c = stamp_few c.args.store.now c.args.seat.now c.args.s c.args.range c.args.tail c.tail_of.result c.requires.reader c.requires.range c.requires.tail c.tail_of.ensures c.resolve_from-found.new.seat c.resolve_from-found.ensures.seat c.consider.ensures c.in-Some.time (subst (λ (x : Resolution). Resolved c.args.seat.now.view c.resolve_from-found.new.seat.view c.args.s c.tail_of.result x) (committed_of c.resolve_from-found.result c.in-Some.time (sym c.in-Some.ensures)) c.resolve_from-found.ensures.resolved)

pub returns-in-Some-clause-reader : goal.returns-in-Some-clause-reader
returns-in-Some-clause-reader c = stamp_reader c.args.store.now c.args.seat.now c.args.s c.args.range c.args.tail c.tail_of.result c.requires.reader c.requires.range c.requires.tail c.tail_of.ensures c.resolve_from-found.new.seat c.resolve_from-found.ensures.seat c.consider.ensures c.in-Some.time (subst (λ (x : Resolution). Resolved c.args.seat.now.view c.resolve_from-found.new.seat.view c.args.s c.tail_of.result x) (committed_of c.resolve_from-found.result c.in-Some.time (sym c.in-Some.ensures)) c.resolve_from-found.ensures.resolved) c.step_stamp.new.seat c.step_stamp.ensures.made c.step_stamp.ensures.seat

pub returns-in-Some-clause-watched : goal.returns-in-Some-clause-watched
returns-in-Some-clause-watched c = watched_on c.args.seat.now.view c.resolve_from-found.new.seat.view c.step_stamp.new.seat.view c.args.s (look_watched c.args.store.now c.args.seat.now c.args.s c.args.range c.args.tail c.tail_of.result c.requires.reader c.requires.range c.requires.tail c.tail_of.ensures c.resolve_from-found.new.seat c.resolve_from-found.ensures.seat c.consider.ensures c.resolve_from-found.result c.resolve_from-found.ensures.resolved) (stamp_watched c.args.store.now c.args.seat.now c.args.s c.args.range c.args.tail c.tail_of.result c.requires.reader c.requires.range c.requires.tail c.tail_of.ensures c.resolve_from-found.new.seat c.resolve_from-found.ensures.seat c.consider.ensures c.in-Some.time (subst (λ (x : Resolution). Resolved c.args.seat.now.view c.resolve_from-found.new.seat.view c.args.s c.tail_of.result x) (committed_of c.resolve_from-found.result c.in-Some.time (sym c.in-Some.ensures)) c.resolve_from-found.ensures.resolved) c.step_stamp.new.seat c.step_stamp.ensures.made)

pub returns-in-Some-clause-loads : goal.returns-in-Some-clause-loads
returns-in-Some-clause-loads c = stamp_loads c.args.store.now c.args.seat.now c.args.s c.args.range c.args.tail c.tail_of.result c.requires.reader c.requires.range c.requires.tail c.tail_of.ensures c.resolve_from-found.new.seat c.resolve_from-found.ensures.seat c.consider.ensures c.in-Some.time (subst (λ (x : Resolution). Resolved c.args.seat.now.view c.resolve_from-found.new.seat.view c.args.s c.tail_of.result x) (committed_of c.resolve_from-found.result c.in-Some.time (sym c.in-Some.ensures)) c.resolve_from-found.ensures.resolved) c.step_stamp.new.seat c.step_stamp.ensures.made

pub returns-in-Some-clause-timed : goal.returns-in-Some-clause-timed
returns-in-Some-clause-timed c = subst (λ (x : Resolution). TimedAs c.args.seat.now.view c.step_stamp.new.seat.view c.args.s c.args.range c.args.tail x) (sym (committed_of c.resolve_from-found.result c.in-Some.time (sym c.in-Some.ensures))) (stamp_timed c.args.store.now c.args.seat.now c.args.s c.args.range c.args.tail c.tail_of.result c.requires.reader c.requires.range c.requires.tail c.tail_of.ensures c.resolve_from-found.new.seat c.resolve_from-found.ensures.seat c.consider.ensures c.in-Some.time (subst (λ (x : Resolution). Resolved c.args.seat.now.view c.resolve_from-found.new.seat.view c.args.s c.tail_of.result x) (committed_of c.resolve_from-found.result c.in-Some.time (sym c.in-Some.ensures)) c.resolve_from-found.ensures.resolved) c.step_stamp.new.seat c.step_stamp.ensures.made)

pub returns-in-Some-clause-seen : goal.returns-in-Some-clause-seen
returns-in-Some-clause-seen c = λ d at. subst (λ (x : Resolution). sees_by (knows c.step_stamp.new.seat.view c.args.s).begin x ≡ sees (knows c.args.seat.now.view c.args.s) c.args.s d.writer) (sym (committed_of c.resolve_from-found.result c.in-Some.time (sym c.in-Some.ensures))) (stamp_sees c.args.store.now c.args.seat.now c.args.s c.args.range c.args.tail c.tail_of.result c.requires.reader c.requires.range c.requires.tail c.tail_of.ensures c.resolve_from-found.new.seat c.resolve_from-found.ensures.seat c.consider.ensures c.in-Some.time (subst (λ (x : Resolution). Resolved c.args.seat.now.view c.resolve_from-found.new.seat.view c.args.s c.tail_of.result x) (committed_of c.resolve_from-found.result c.in-Some.time (sym c.in-Some.ensures)) c.resolve_from-found.ensures.resolved) c.step_stamp.new.seat c.step_stamp.ensures.made d (at_same c.args.seat.now.view c.args.s (c.args.range * c.args.store.now.layout.limits.tails + c.args.tail) c.tail_of.result d (sym c.tail_of.ensures) at))

pub returns-clause-reader : goal.returns-clause-reader
returns-clause-reader c = look_reader c.args.store.now c.args.seat.now c.args.s c.args.range c.args.tail c.tail_of.result c.requires.reader c.requires.range c.requires.tail c.tail_of.ensures c.resolve_from-found.new.seat c.resolve_from-found.ensures.seat c.consider.ensures c.resolve_from-found.result c.resolve_from-found.ensures.resolved

pub returns-clause-watched : goal.returns-clause-watched
returns-clause-watched c = look_watched c.args.store.now c.args.seat.now c.args.s c.args.range c.args.tail c.tail_of.result c.requires.reader c.requires.range c.requires.tail c.tail_of.ensures c.resolve_from-found.new.seat c.resolve_from-found.ensures.seat c.consider.ensures c.resolve_from-found.result c.resolve_from-found.ensures.resolved

pub returns-clause-loads : goal.returns-clause-loads
returns-clause-loads c = look_loads c.args.store.now c.args.seat.now c.args.s c.args.range c.args.tail c.tail_of.result c.requires.reader c.requires.range c.requires.tail c.tail_of.ensures c.resolve_from-found.new.seat c.resolve_from-found.ensures.seat c.consider.ensures c.resolve_from-found.result c.resolve_from-found.ensures.resolved

pub returns-clause-timed : goal.returns-clause-timed
returns-clause-timed c = look_timed c.args.store.now c.args.seat.now c.args.s c.args.range c.args.tail c.tail_of.result c.requires.reader c.requires.range c.requires.tail c.tail_of.ensures c.resolve_from-found.new.seat c.resolve_from-found.ensures.seat c.consider.ensures c.resolve_from-found.result (sym c.in_default.ensures) c.resolve_from-found.ensures.resolved

pub returns-clause-seen : goal.returns-clause-seen
returns-clause-seen c = λ d at. look_seen c.args.store.now c.args.seat.now c.args.s c.args.range c.args.tail c.tail_of.result c.requires.reader c.requires.range c.requires.tail c.tail_of.ensures c.resolve_from-found.new.seat c.resolve_from-found.ensures.seat c.consider.ensures c.resolve_from-found.result c.resolve_from-found.ensures.resolved d (at_same c.args.seat.now.view c.args.s (c.args.range * c.args.store.now.layout.limits.tails + c.args.tail) c.tail_of.result d (sym c.tail_of.ensures) at)

pub resolve_from-found-requires-clause-first : goal.resolve_from-found-requires-clause-first
resolve_from-found-requires-clause-first c = c.requires.first ∙ ap (λ (t : ℕ). address c.args.store.now.layout.limits (CellWord t 0)) (sym c.tail_of.ensures)
