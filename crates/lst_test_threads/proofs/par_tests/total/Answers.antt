use Rattle.lst_work.proofs.SeenAlike.{seen_alike_is_kept, summers_have_grown}
use Rattle.lst_test_threads.proofs.par_tests.total.Goals as goal

pub returns-clause-alike : goal.returns-clause-alike
returns-clause-alike g c t low = seen_alike_is_kept t c.args.sessions.now c.par_sum.new.sessions (summers_have_grown c.args.store.now c.args.sessions.now c.par_sum.new.sessions c.par_sum.ensures.sessions) (c.requires.alike t low)
