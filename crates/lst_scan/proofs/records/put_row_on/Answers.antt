use Rattle.lst_walk.specs.Whole.{row_where}
use Rattle.lst_walk.proofs.Reading.{reader_on}
use Rattle.lst_scan.proofs.Seeing.{row_on}
use Rattle.lst_scan.proofs.records.put_row_on.Goals as goal

pub returns-clause-reader : goal.returns-clause-reader
returns-clause-reader c = reader_on c.args.store.now c.args.seat.now c.put_row.new.seat c.args.s c.requires.reader c.put_row.ensures.watched c.put_row.ensures.seat

pub returns-clause-row : goal.returns-clause-row
returns-clause-row c = row_on c.args.seat.now.view c.args.s c.args.rec.number (row_where c.put_row.result c.put_row.new.row) c.put_row.ensures.row
