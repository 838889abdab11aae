use Rattle.std.proofs.Common.{sym, ◌∙◌}
use Rattle.lst_walk.proofs.Standing.{timed_yes, timed_no}
use Rattle.lst_walk.proofs.stamps.stamp.Goals as goal

pub returns-clause-yes : goal.returns-clause-yes
returns-clause-yes c = λ e. timed_yes c.args.seat.now.view c.resolve_stamped.new.seat.view c.args.s c.args.range c.args.tail c.resolve_stamped.result (sym c.is_timed.ensures ∙ e) c.resolve_stamped.ensures.timed

pub returns-clause-no : goal.returns-clause-no
returns-clause-no c = λ e. timed_no c.args.seat.now.view c.resolve_stamped.new.seat.view c.args.s c.args.range c.args.tail c.resolve_stamped.result (sym c.is_timed.ensures ∙ e) c.resolve_stamped.ensures.timed
