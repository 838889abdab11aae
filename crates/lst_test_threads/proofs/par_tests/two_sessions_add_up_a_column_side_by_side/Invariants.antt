use Rattle.lst_session.specs.Crews.{IsCrewOf}
use Rattle.lst_test_threads.proofs.par_tests.two_sessions_add_up_a_column_side_by_side.Given as goal

abbrev pub invariant-loop-key : goal.invariant-loop-key
invariant-loop-key g l = IsCrewOf l.store l.crew
