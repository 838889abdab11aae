use Rattle.lst_scan.proofs.Loops.{lent_still}
use Rattle.lst_scan.proofs.readers.sum.Goals as goal

pub returns-clause-still : goal.returns-clause-still
returns-clause-still c = lent_still c.args.store.now c.args.reader.now.seat.now c.sum.new.seat c.args.reader.now.s c.sum.ensures.reader c.sum.ensures.watched
