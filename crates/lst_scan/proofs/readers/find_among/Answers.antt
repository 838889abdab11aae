use Rattle.lst_scan.proofs.Loops.{lent_still}
use Rattle.lst_scan.proofs.readers.find_among.Goals as goal

pub returns-clause-reader : goal.returns-clause-reader
returns-clause-reader c = lent_still c.args.store.now c.args.reader.now.seat.now c.find_among.new.seat c.args.reader.now.s c.find_among.ensures.reader c.find_among.ensures.watched c.requires.reader
