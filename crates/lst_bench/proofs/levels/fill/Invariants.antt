use Rattle.lst_session.specs.Crews.{IsCrewOf}
use Rattle.lst_bench.proofs.levels.fill.Given as goal

abbrev pub invariant-loop-key : goal.invariant-loop-key
invariant-loop-key l = IsCrewOf l.store l.crew
