use Rattle.std.specs.Prelude.{◌≡◌, ◌-◌, ◌<◌}
use Rattle.lst_bench.specs.Seated.{Stays}
use Rattle.lst_bench.proofs.runs.head_runs.Given as goal

abbrev pub invariant-loop-turn : goal.invariant-loop-turn
invariant-loop-turn l = Stays l.store l.seat × (l.range < l.ranges) × (l.ranges ≡ l.store.layout.limits.ranges)

abbrev pub decreases-loop-turn : goal.decreases-loop-turn
decreases-loop-turn l = l.count - l.turn
