use Rattle.std.specs.Prelude.{◌≡◌, ◌*◌, ◌-◌, ◌<◌}
use Rattle.lst_bench.specs.Seated.{Stays}
use Rattle.lst_bench.proofs.runs.heads.Given as goal

abbrev pub invariant-loop-turn : goal.invariant-loop-turn
invariant-loop-turn l = Stays l.store l.seat × (l.rec < l.records) × (l.records ≡ 256 * l.store.layout.limits.ranges)

abbrev pub decreases-loop-turn : goal.decreases-loop-turn
decreases-loop-turn l = l.count - l.turn
