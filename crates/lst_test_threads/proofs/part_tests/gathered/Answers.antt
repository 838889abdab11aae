use Rattle.std.proofs.Common.{sym, subst}
use Rattle.std.specs.List.{All}
use Rattle.lst_session.specs.Passes.{IsReady}
use Rattle.lst_test_threads.proofs.part_tests.gathered.Goals as goal

pub returns-in-Ok-gather : goal.returns-in-Ok-gather
returns-in-Ok-gather c = c.in-Ok-gather.ensures.crew (subst (All (IsReady c.args.store.now)) (sym c.in-Err.ensures.untouched.0) c.requires.sessions)
