use Rattle.std.proofs.Common.{arith}
use Rattle.lst_test_steps.proofs.Idling.{pair_on}
use Rattle.lst_test_steps.proofs.post_tests.posting.Goals as goal

pub returns : goal.returns
returns c = let i = c.requires.pair.idle 0 (omega arith) in pair_on c.args.store.now c.args.seat.now 0 c.requires.pair (omega arith) c.load_posting.new.seat _ c.load_posting.ensures.seat c.load_posting.ensures.looked.view i.hand i.away i.free
