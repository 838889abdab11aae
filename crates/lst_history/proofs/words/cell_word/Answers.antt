use Rattle.lst_layout.specs.declared.place.Place.TheVariants.{CellWord}
use Rattle.lst_history.proofs.Looks.{look_reads}
use Rattle.lst_history.proofs.words.cell_word.Goals as goal

pub load_cell-requires-clause-seat : goal.load_cell-requires-clause-seat
load_cell-requires-clause-seat c = c.requires.reader.seat_of

pub load_cell-requires-clause-host : goal.load_cell-requires-clause-host
load_cell-requires-clause-host c = c.requires.reader.host

pub load_cell-requires-clause-place : goal.load_cell-requires-clause-place
load_cell-requires-clause-place c = c.requires.within

pub returns-clause-reads : goal.returns-clause-reads
returns-clause-reads c = look_reads c.args.store.now c.args.seat.now c.load_cell.new.seat c.args.s c.load_cell.result (CellWord c.args.tail c.args.place) c.requires.reader c.load_cell.ensures.seat c.requires.within tt c.load_cell.ensures.looked
