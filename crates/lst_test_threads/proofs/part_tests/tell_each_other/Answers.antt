use Rattle.std.proofs.Common.{sym, subst}
use Rattle.lst_session.specs.Parting.{IsPass}
use Rattle.lst_session.proofs.Parting.{pass_ready}
use Rattle.lst_test_threads.proofs.part_tests.tell_each_other.Goals as goal

pub hear-requires-clause-pass : goal.hear-requires-clause-pass
hear-requires-clause-pass c = subst (IsPass c.args.store.now) (sym c.tell-newer.ensures.same) (pass_ready c.args.store.now c.args.second.now c.requires.second)

pub hear-requires-2-clause-pass : goal.hear-requires-2-clause-pass
hear-requires-2-clause-pass c = subst (IsPass c.args.store.now) (sym c.tell-older.ensures.same) (pass_ready c.args.store.now c.args.first.now c.requires.first)
