use Rattle.std.proofs.Common.{arith}
use Rattle.lst_test_steps.proofs.Idling.{pair_found}
use Rattle.lst_test_steps.proofs.index_tests.get.Goals as goal

pub returns-in-Some : goal.returns-in-Some
returns-in-Some c = pair_found c.args.store.now c.args.seat.now 0 c.requires.pair (omega arith) c.find.new.seat c.find.ensures.seat c.find.ensures.works c.find.ensures.keeps

pub returns-in-None : goal.returns-in-None
returns-in-None c = pair_found c.args.store.now c.args.seat.now 0 c.requires.pair (omega arith) c.find.new.seat c.find.ensures.seat c.find.ensures.works c.find.ensures.keeps
