use Rattle.std.proofs.Common.{arith}
use Rattle.lst_test_steps.proofs.Idling.{pair_worked}
use Rattle.lst_test_steps.proofs.index_tests.put.Goals as goal

pub returns-in-Ok : goal.returns-in-Ok
returns-in-Ok c = pair_worked c.args.store.now c.args.seat.now 0 c.requires.pair (omega arith) c.place.new.seat _ c.place.ensures.seat c.place.ensures.works c.place.ensures.free

pub returns-in-Err : goal.returns-in-Err
returns-in-Err c = pair_worked c.args.store.now c.args.seat.now 0 c.requires.pair (omega arith) c.place.new.seat _ c.place.ensures.seat c.place.ensures.works c.place.ensures.free
