use Rattle.std.proofs.Common.{◌<◌, refl, sym, subst}
use Rattle.lst_layout.specs.declared.limits.Limits.{Limits}
use Rattle.lst_core_state.specs.declared.events.Event.TheVariants.{Stamp}
use Rattle.lst_core_state.specs.Step.{IsWithin}
use Rattle.lst_rule.proofs.Watching.{watches_join}
use Rattle.lst_write.specs.declared.standing.Standing.{Standing}
use Rattle.lst_write.specs.Standings.{Stands}
use Rattle.lst_write.proofs.Found.{start_some, start_stamp, start_watched, stamp_stands, own_stands}
use Rattle.lst_write.proofs.Keeping.{still_hosts}
use Rattle.lst_write.proofs.Resolved.{inside, look_watched, look_closed, look_own, look_timed, look_few, may_be_stamped, timed_watched, timed_stands, timed_settles, look_unfinished}
use Rattle.lst_write.proofs.standing.standing_of.Goals as goal

pub resolve-found-requires-clause-place : goal.resolve-found-requires-clause-place
resolve-found-requires-clause-place c = inside c.args.seat.now.view c.args.seat.now.view c.args.s c.args.tail c.requires.host c.requires.on c.requires.version

pub unreachable-requires : goal.unreachable-requires
unreachable-requires c = start_some _ _ _ _ _ c.requires.host c.requires.on c.requires.version c.in-Empty.ensures.resolved refl

pub stamped_standing-requires-clause-stamp : goal.stamped_standing-requires-clause-stamp
stamped_standing-requires-clause-stamp c = start_stamp _ _ _ _ _ c.requires.host c.requires.on c.requires.version c.in-Stamped.ensures.resolved.2 c.in-Stamped.time refl

pub returns-in-Stamped-clause-watched : goal.returns-in-Stamped-clause-watched
returns-in-Stamped-clause-watched c = watches_join _ _ _ _ (start_watched _ _ _ _ _ c.requires.host c.requires.on c.requires.version c.in-Stamped.ensures.resolved.2) c.stamped_standing.ensures.watched

pub returns-in-Stamped-clause-stands : goal.returns-in-Stamped-clause-stands
returns-in-Stamped-clause-stands c = stamp_stands _ _ _ _ _ c.requires.host c.requires.on c.requires.version c.in-Stamped.ensures.resolved.2 c.in-Stamped.time refl _ _ c.stamped_standing.ensures.stands

pub returns-in-Own-clause-watched : goal.returns-in-Own-clause-watched
returns-in-Own-clause-watched c = start_watched _ _ _ _ _ c.requires.host c.requires.on c.requires.version c.in-Own.ensures.resolved.2.looked

pub returns-in-Own-clause-stands : goal.returns-in-Own-clause-stands
returns-in-Own-clause-stands c = let h = c.in-Own.ensures.resolved in own_stands _ _ _ _ _ c.requires.host c.requires.on c.requires.version h.2.looked h.0 h.1 refl h.3.0 h.3.1

pub returns-in-Closed-clause-watched : goal.returns-in-Closed-clause-watched
returns-in-Closed-clause-watched c = look_watched _ _ _ _ c.requires.host c.requires.on c.requires.version _ c.resolve-found.ensures.resolved

pub returns-in-Closed-clause-stands : goal.returns-in-Closed-clause-stands
returns-in-Closed-clause-stands c = look_closed _ _ _ _ c.requires.host c.requires.on c.requires.version c.in-Closed.ensures.resolved

pub step_stamp-requires-clause-host : goal.step_stamp-requires-clause-host
step_stamp-requires-clause-host c = still_hosts c.args.seat.now.view c.resolve-found.new.seat.view c.args.s (look_watched c.args.seat.now.view c.resolve-found.new.seat.view c.args.s c.args.tail c.requires.host c.requires.on c.requires.version _ c.resolve-found.ensures.resolved) c.requires.host

pub step_stamp-requires-clause-own : goal.step_stamp-requires-clause-own
step_stamp-requires-clause-own c = subst (λ (l : Limits). c.args.s < l.sessions) (sym (look_watched c.args.seat.now.view c.resolve-found.new.seat.view c.args.s c.args.tail c.requires.host c.requires.on c.requires.version _ c.resolve-found.ensures.resolved).learns.limits) c.requires.own

pub step_stamp-requires-clause-within : goal.step_stamp-requires-clause-within
step_stamp-requires-clause-within c = subst (λ (l : Limits). IsWithin l (Stamp c.args.s c.args.range c.args.number)) (sym (look_watched c.args.seat.now.view c.resolve-found.new.seat.view c.args.s c.args.tail c.requires.host c.requires.on c.requires.version _ c.resolve-found.ensures.resolved).learns.limits) (c.requires.own, c.requires.range, c.requires.number.0, c.requires.number.1)

pub step_stamp-requires-clause-stands : goal.step_stamp-requires-clause-stands
step_stamp-requires-clause-stands c = (may_be_stamped c.args.seat.now.view c.resolve-found.new.seat.view c.args.s c.args.tail c.requires.host c.requires.on c.requires.version c.in-Committed.time c.in-Committed.ensures.resolved c.args.range c.args.number c.requires.tail).0

pub step_stamp-requires-clause-times : goal.step_stamp-requires-clause-times
step_stamp-requires-clause-times c = (may_be_stamped c.args.seat.now.view c.resolve-found.new.seat.view c.args.s c.args.tail c.requires.host c.requires.on c.requires.version c.in-Committed.time c.in-Committed.ensures.resolved c.args.range c.args.number c.requires.tail).1

pub step_stamp-requires-clause-time : goal.step_stamp-requires-clause-time
step_stamp-requires-clause-time c = look_few c.args.seat.now.view c.resolve-found.new.seat.view c.args.s c.args.tail c.requires.host c.requires.on c.requires.version c.in-Committed.time c.in-Committed.ensures.resolved

pub returns-in-Committed-clause-watched : goal.returns-in-Committed-clause-watched
returns-in-Committed-clause-watched c = watches_join _ _ _ _ (look_watched c.args.seat.now.view c.resolve-found.new.seat.view c.args.s c.args.tail c.requires.host c.requires.on c.requires.version _ c.resolve-found.ensures.resolved) (timed_watched c.args.seat.now.view c.resolve-found.new.seat.view c.args.s c.args.tail c.requires.host c.requires.on c.requires.version c.in-Committed.time c.in-Committed.ensures.resolved c.args.range c.args.number c.requires.tail c.step_stamp.new.seat.view c.step_stamp.ensures.made)

pub returns-in-Committed-clause-stands : goal.returns-in-Committed-clause-stands
returns-in-Committed-clause-stands c = subst (λ (a : Standing). Stands c.args.seat.now.view c.step_stamp.new.seat.view c.args.s c.args.tail a) (sym c.committed_standing.ensures) (timed_stands c.args.seat.now.view c.resolve-found.new.seat.view c.args.s c.args.tail c.requires.host c.requires.on c.requires.version c.in-Committed.time c.in-Committed.ensures.resolved c.args.range c.args.number c.requires.tail c.step_stamp.new.seat.view c.step_stamp.ensures.made c.consider-in-Committed.ensures)

pub returns-in-Committed-clause-settled : goal.returns-in-Committed-clause-settled
returns-in-Committed-clause-settled c = timed_settles c.args.seat.now.view c.resolve-found.new.seat.view c.args.s c.args.tail c.requires.host c.requires.on c.requires.version c.in-Committed.time c.in-Committed.ensures.resolved c.args.range c.args.number c.requires.tail c.step_stamp.new.seat.view c.step_stamp.ensures.made _

pub returns-in-Stamped-clause-settled : goal.returns-in-Stamped-clause-settled
returns-in-Stamped-clause-settled c = look_timed c.args.seat.now.view c.resolve-found.new.seat.view c.args.s c.args.tail c.requires.host c.requires.on c.requires.version c.in-Stamped.time c.in-Stamped.ensures.resolved _ _ c.stamped_standing.ensures.watched

pub returns-in-Own-clause-settled : goal.returns-in-Own-clause-settled
returns-in-Own-clause-settled c = look_own c.args.seat.now.view c.resolve-found.new.seat.view c.args.s c.args.tail c.requires.host c.requires.on c.requires.version c.in-Own.ensures.resolved

pub returns-in-Unfinished-clause-watched : goal.returns-in-Unfinished-clause-watched
returns-in-Unfinished-clause-watched c = look_watched _ _ _ _ c.requires.host c.requires.on c.requires.version _ c.resolve-found.ensures.resolved

pub returns-in-Unfinished-clause-stands : goal.returns-in-Unfinished-clause-stands
returns-in-Unfinished-clause-stands c = look_unfinished _ _ _ _ c.requires.host c.requires.on c.requires.version _ _ c.in-Unfinished.ensures.resolved
