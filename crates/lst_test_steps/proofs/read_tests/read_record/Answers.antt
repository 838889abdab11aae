use Rattle.lst_test_steps.proofs.Idling.{pair_watched}
use Rattle.lst_test_steps.proofs.read_tests.read_record.Goals as goal

pub returns : goal.returns
returns c = pair_watched c.args.store.now c.args.seat.now c.args.s c.requires.pair c.requires.session c.row.new.seat c.row.ensures.seat c.row.ensures.watched
