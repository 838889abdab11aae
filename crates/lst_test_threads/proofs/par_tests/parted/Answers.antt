use Rattle.std.proofs.Common.{arith}
use Rattle.lst_session.proofs.Recounting.{hosts_all}
use Rattle.lst_work.proofs.SeenAlike.{parted_have_seen_alike}
use Rattle.lst_test_threads.proofs.par_tests.parted.Goals as goal

pub returns-in-Ok-clause-alike : goal.returns-in-Ok-clause-alike
returns-in-Ok-clause-alike c t low = parted_have_seen_alike c.args.store.now c.args.crew.seat.view _ _ t c.in-Ok.ensures.parted c.consider.ensures (hosts_all c.args.store.now c.args.crew c.requires) (λ s few. let h = c.all_have_seen.ensures.0 c.if-not-all_have_seen.false s few in omega arith)
