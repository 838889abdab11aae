use Rattle.std.proofs.Common.{ℕ, ap, ◌∙◌}
use Rattle.lst_walk.specs.Stamping.{sees_by}
use Rattle.lst_walk.proofs.Standing.{timed_resolves}
use Rattle.lst_walk.proofs.placed.is_seen_untimed.Goals as goal

pub returns-clause-seen : goal.returns-clause-seen
returns-clause-seen c = λ d at. c.is_seen_at.ensures ∙ (ap (λ (n : ℕ). sees_by n c.resolve_stamped_from-found.result) c.begin.ensures ∙ c.resolve_stamped_from-found.ensures.seen d at)

pub returns-clause-resolved : goal.returns-clause-resolved
returns-clause-resolved c = timed_resolves c.args.seat.now.view c.resolve_stamped_from-found.new.seat.view c.args.s c.args.range c.args.tail c.resolve_stamped_from-found.result c.resolve_stamped_from-found.ensures.timed
