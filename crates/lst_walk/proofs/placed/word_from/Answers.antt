use Rattle.std.proofs.Common.{subst, sym, ◌<◌, ◌+◌}
use Rattle.lst_layout.specs.declared.limits.Limits.{Limits}
use Rattle.lst_layout.specs.declared.place.Place.TheVariants.{CellWord}
use Rattle.lst_rule.specs.Loads.{WordFound}
use Rattle.lst_walk.proofs.Reading.{cell_within, looked_watched, word_found, reader_on}
use Rattle.std.proofs.Common.{refl}
use Rattle.lst_rule.proofs.Finds.{loads_cell}
use Rattle.lst_walk.proofs.placed.word_from.Goals as goal

pub load_cell_from-requires-clause-place : goal.load_cell_from-requires-clause-place
load_cell_from-requires-clause-place c = cell_within c.args.seat.now.view c.args.s c.args.tail c.args.place c.requires.version (subst (λ (l : Limits). c.args.place < 3 + l.columns) (sym c.requires.reader.seat_of.limits) c.requires.place.1)

pub returns-clause-watched : goal.returns-clause-watched
returns-clause-watched c = looked_watched c.args.seat.now.view c.load_cell_from.new.seat.view c.args.s c.load_cell_from.result (CellWord c.args.tail c.args.place) c.requires.reader.host
    (cell_within c.args.seat.now.view c.args.s c.args.tail c.args.place c.requires.version (subst (λ (l : Limits). c.args.place < 3 + l.columns) (sym c.requires.reader.seat_of.limits) c.requires.place.1)) tt c.load_cell_from.ensures.looked

pub returns-clause-word : goal.returns-clause-word
returns-clause-word c = λ d at. subst (λ (l : Limits). WordFound l d c.args.place c.load_cell_from.result) c.requires.reader.seat_of.limits
    (word_found c.args.seat.now.view c.load_cell_from.new.seat.view c.args.s c.args.tail c.args.place c.load_cell_from.result c.requires.reader.host (subst (λ (l : Limits). c.args.place < 3 + l.columns) (sym c.requires.reader.seat_of.limits) c.requires.place.1) c.load_cell_from.ensures.looked d at)

pub returns-clause-loads : goal.returns-clause-loads
returns-clause-loads c = loads_cell c.args.seat.now.view c.load_cell_from.new.seat.view c.args.s c.args.tail c.args.tail c.args.place c.load_cell_from.result refl c.load_cell_from.ensures.looked

pub load_cell_from-requires-clause-seat : goal.load_cell_from-requires-clause-seat
load_cell_from-requires-clause-seat c = c.requires.reader.seat_of

pub load_cell_from-requires-clause-host : goal.load_cell_from-requires-clause-host
load_cell_from-requires-clause-host c = c.requires.reader.host

pub load_cell_from-requires-clause-first : goal.load_cell_from-requires-clause-first
load_cell_from-requires-clause-first c = c.requires.first

pub returns-clause-reader : goal.returns-clause-reader
returns-clause-reader c = reader_on c.args.store.now c.args.seat.now c.load_cell_from.new.seat c.args.s c.requires.reader (looked_watched c.args.seat.now.view c.load_cell_from.new.seat.view c.args.s c.load_cell_from.result (CellWord c.args.tail c.args.place) c.requires.reader.host (cell_within c.args.seat.now.view c.args.s c.args.tail c.args.place c.requires.version (subst (λ (l : Limits). c.args.place < 3 + l.columns) (sym c.requires.reader.seat_of.limits) c.requires.place.1)) tt c.load_cell_from.ensures.looked) c.load_cell_from.ensures.seat
