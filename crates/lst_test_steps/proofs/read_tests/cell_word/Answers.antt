use Rattle.lst_test_steps.proofs.Idling.{pair_on}
use Rattle.lst_test_steps.proofs.read_tests.cell_word.Goals as goal

pub returns : goal.returns
returns c = let i = c.requires.pair.idle c.args.s c.requires.session in pair_on c.args.store.now c.args.seat.now c.args.s c.requires.pair c.requires.session c.load_cell.new.seat _ c.load_cell.ensures.seat c.load_cell.ensures.looked.view i.hand i.away i.free
