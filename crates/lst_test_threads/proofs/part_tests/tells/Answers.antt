use Rattle.std.proofs.Common.{sym, subst}
use Rattle.lst_session.specs.Passes.{IsReady}
use Rattle.lst_test_threads.proofs.part_tests.tells.Goals as goal

pub returns-clause-teller : goal.returns-clause-teller
returns-clause-teller c = subst (IsReady c.args.store.now) (sym c.tell-note.ensures.same) c.requires.teller
