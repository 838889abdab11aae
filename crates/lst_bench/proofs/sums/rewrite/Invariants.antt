use Rattle.lst_session.specs.Crews.{IsCrewOf}
use Rattle.lst_bench.proofs.sums.rewrite.Given as goal

abbrev pub invariant-loop-number : goal.invariant-loop-number
invariant-loop-number l = IsCrewOf l.store l.crew
