use Rattle.lst_test_steps.proofs.Idling.{pair_found, pair_watched}
use Rattle.lst_test_steps.proofs.read_tests.see.Goals as goal

pub returns-in_default : goal.returns-in_default
returns-in_default c = pair_found c.args.store.now c.args.seat.now c.args.s c.requires.pair c.requires.session c.find.new.seat c.find.ensures.seat c.find.ensures.works c.find.ensures.keeps

pub returns : goal.returns
returns c = pair_watched c.args.store.now c.find.new.seat c.args.s (pair_found c.args.store.now c.args.seat.now c.args.s c.requires.pair c.requires.session c.find.new.seat c.find.ensures.seat c.find.ensures.works c.find.ensures.keeps) c.requires.session c.row.new.seat c.row.ensures.seat c.row.ensures.watched
