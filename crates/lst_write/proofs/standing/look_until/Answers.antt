use Rattle.lst_write.proofs.Clocks.{stamp_seen}
use Rattle.lst_layout.specs.declared.place.Place.TheVariants.{ClockWord}
use Rattle.lst_rule.proofs.Watching.{looks_watch, watched_same}
use Rattle.lst_write.proofs.standing.look_until.Goals as goal

pub returns-then-time-seen-clause-seen : goal.returns-then-time-seen-clause-seen
returns-then-time-seen-clause-seen c = stamp_seen _ _ _ _ c.requires.host c.load_clock.ensures.clocked _ c.requires.stamp

pub returns-else-time-seen-clause-watched : goal.returns-else-time-seen-clause-watched
returns-else-time-seen-clause-watched c = watched_same _ _

pub returns-then-time-seen-clause-watched : goal.returns-then-time-seen-clause-watched
returns-then-time-seen-clause-watched c = looks_watch _ _ _ _ ClockWord c.requires.host tt tt c.load_clock.ensures.clocked.looked.met
