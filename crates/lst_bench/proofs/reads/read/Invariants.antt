use Rattle.lst_session.specs.Crews.{IsCrewOf}
use Rattle.lst_bench.proofs.reads.read.Given as goal

abbrev pub invariant-loop-turn : goal.invariant-loop-turn
invariant-loop-turn l = IsCrewOf l.store l.crew
