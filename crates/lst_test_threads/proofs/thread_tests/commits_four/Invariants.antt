use Rattle.lst_session.specs.Passes.{IsReady}
use Rattle.lst_test_threads.proofs.thread_tests.commits_four.Given as goal

abbrev pub invariant-loop-key : goal.invariant-loop-key
invariant-loop-key g l = IsReady l.store l.session
