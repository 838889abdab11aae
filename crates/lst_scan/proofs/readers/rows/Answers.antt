use Rattle.lst_scan.proofs.Loops.{lent_still}
use Rattle.lst_scan.proofs.readers.rows.Goals as goal

pub returns-clause-reader : goal.returns-clause-reader
returns-clause-reader c = lent_still c.args.store.now c.args.reader.now.seat.now c.rows.new.seat c.args.reader.now.s c.rows.ensures.reader c.rows.ensures.watched c.requires.reader
