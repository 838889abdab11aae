use Rattle.std.specs.Prelude.{◌-◌, ◌≤◌}
use Rattle.lst_bench.specs.Seated.{Rests}
use Rattle.lst_bench.proofs.runs.turns.Given as goal

abbrev pub invariant-loop-turn : goal.invariant-loop-turn
invariant-loop-turn l = Rests l.store l.seat × (l.begun ≤ l.turn)

abbrev pub decreases-loop-turn : goal.decreases-loop-turn
decreases-loop-turn l = l.count - l.turn
