use Rattle.lst_session.specs.Crews.{IsCrewOf}
use Rattle.lst_bench.proofs.sums.hear.Given as goal

abbrev pub invariant-loop-s : goal.invariant-loop-s
invariant-loop-s l = IsCrewOf l.store l.crew
