use Rattle.lst_session.specs.Passes.{IsReady}
use Rattle.lst_test_hostile.proofs.thread_tests.Asker.ask_many.Given as goal

abbrev pub invariant-loop : goal.invariant-loop
invariant-loop g l = IsReady l.store l.session
