use Rattle.lst_test_steps.proofs.Idling.{pair_opens}
use Rattle.lst_test_steps.proofs.read_tests.start.Goals as goal

pub returns-in-Ok : goal.returns-in-Ok
returns-in-Ok c = pair_opens c.args.store.now c.args.seat.now c.args.s c.requires.pair c.requires.session c.begin.new.seat _ _ _ c.begin.ensures.seat c.in-Ok.ensures.ok
