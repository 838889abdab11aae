use Rattle.lst_session.specs.Crews.{IsCrewOf}
use Rattle.lst_bench.proofs.sums.merge_all.Given as goal

abbrev pub invariant-loop-range : goal.invariant-loop-range
invariant-loop-range l = IsCrewOf l.store l.crew

abbrev pub invariant-loop-column : goal.invariant-loop-column
invariant-loop-column l = IsCrewOf l.store l.crew
