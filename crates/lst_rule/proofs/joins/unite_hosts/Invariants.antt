use Rattle.std.proofs.Common.{◌≡◌, ◌-◌}
use Rattle.lst_rule.proofs.Changing.{united_first}
use Rattle.lst_rule.proofs.joins.unite_hosts.Given as goal

abbrev pub invariant-loop-s : goal.invariant-loop-s
invariant-loop-s l = l.hosted.items ≡ united_first l.s l.others l.fn.hosted.items l.others

abbrev pub decreases-loop-s : goal.decreases-loop-s
decreases-loop-s l = l.end - l.s
