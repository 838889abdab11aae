use Rattle.lst_scan.proofs.Loops.{lent_still}
use Rattle.lst_scan.proofs.readers.count.Goals as goal

pub returns-clause-still : goal.returns-clause-still
returns-clause-still c = lent_still c.args.store.now c.args.reader.now.seat.now c.count.new.seat c.args.reader.now.s c.count.ensures.reader c.count.ensures.watched
