use Rattle.lst_walk.specs.Packed.{skims_same}
use Rattle.lst_walk.proofs.Holding.{of_skims, of_keeps}
use Rattle.std.proofs.Common.{arith}
use Rattle.lst_scan.proofs.Untold.{frame_told, none_told}
use Rattle.lst_walk.proofs.Reading.{reader_on}
use Rattle.lst_scan.proofs.paged.frame_of.Goals as goal

pub returns-then-is_none-clause-skims : goal.returns-then-is_none-clause-skims
returns-then-is_none-clause-skims c = skims_same c.args.seat.now.view c.args.s

pub returns-then-tps-gt0-clause-skims : goal.returns-then-tps-gt0-clause-skims
returns-then-tps-gt0-clause-skims c = of_skims c.args.seat.now.view c.step_look_page-frame.new.seat.view c.load_frame-tps.new.seat.view c.args.s c.args.range c.args.c c.step_look_page-frame.result c.load_frame-tps.result c.requires.reader.host c.requires.reader.own c.step_look_page-frame.ensures.looked c.load_frame-tps.ensures.loaded

pub returns-then-tps-gt0-clause-frame : goal.returns-then-tps-gt0-clause-frame
returns-then-tps-gt0-clause-frame c = (
  c.load_frame-tps.result,
  of_keeps c.args.seat.now.view c.step_look_page-frame.new.seat.view c.load_frame-tps.new.seat.view c.args.s c.args.range c.args.c c.step_look_page-frame.result c.load_frame-tps.result c.requires.reader.host c.requires.reader.own c.step_look_page-frame.ensures.looked c.load_frame-tps.ensures.loaded,
  c.if-tps-gt0.true,
)

pub returns-else-tps-gt0-clause-skims : goal.returns-else-tps-gt0-clause-skims
returns-else-tps-gt0-clause-skims c = of_skims c.args.seat.now.view c.step_look_page-frame.new.seat.view c.load_frame-tps.new.seat.view c.args.s c.args.range c.args.c c.step_look_page-frame.result c.load_frame-tps.result c.requires.reader.host c.requires.reader.own c.step_look_page-frame.ensures.looked c.load_frame-tps.ensures.loaded

pub returns-then-tps-gt0-clause-told : goal.returns-then-tps-gt0-clause-told
returns-then-tps-gt0-clause-told c = frame_told c.args.seat.now.view c.step_look_page-frame.new.seat.view c.load_frame-tps.new.seat.view c.args.s c.args.range c.args.c c.step_look_page-frame.result c.load_frame-tps.result c.step_look_page-frame.ensures.looked c.load_frame-tps.ensures.loaded

pub returns-else-tps-gt0-clause-none : goal.returns-else-tps-gt0-clause-none
returns-else-tps-gt0-clause-none c = λ is. none_told c.args.seat.now.view c.step_look_page-frame.new.seat.view c.load_frame-tps.new.seat.view c.args.s c.args.range c.args.c c.step_look_page-frame.result c.load_frame-tps.result c.step_look_page-frame.ensures.looked c.load_frame-tps.ensures.loaded
    (let zero = c.if-tps-gt0.false in omega arith)

pub returns-then-is_none-clause-reader : goal.returns-then-is_none-clause-reader
returns-then-is_none-clause-reader c = c.requires.reader

pub step_look_page-frame-requires-clause-seat : goal.step_look_page-frame-requires-clause-seat
step_look_page-frame-requires-clause-seat c = c.requires.reader.seat_of

pub step_look_page-frame-requires-clause-host : goal.step_look_page-frame-requires-clause-host
step_look_page-frame-requires-clause-host c = c.requires.reader.host

pub step_look_page-frame-requires-clause-own : goal.step_look_page-frame-requires-clause-own
step_look_page-frame-requires-clause-own c = c.requires.reader.own

pub load_frame-tps-requires-clause-seat : goal.load_frame-tps-requires-clause-seat
load_frame-tps-requires-clause-seat c = c.step_look_page-frame.ensures.seat

pub returns-then-tps-gt0-clause-reader : goal.returns-then-tps-gt0-clause-reader
returns-then-tps-gt0-clause-reader c = let skims = of_skims c.args.seat.now.view c.step_look_page-frame.new.seat.view c.load_frame-tps.new.seat.view c.args.s c.args.range c.args.c c.step_look_page-frame.result c.load_frame-tps.result c.requires.reader.host c.requires.reader.own c.step_look_page-frame.ensures.looked c.load_frame-tps.ensures.loaded in
    reader_on c.args.store.now c.args.seat.now c.load_frame-tps.new.seat c.args.s c.requires.reader skims.watched c.load_frame-tps.ensures.seat

pub returns-else-tps-gt0-clause-reader : goal.returns-else-tps-gt0-clause-reader
returns-else-tps-gt0-clause-reader c = let skims = of_skims c.args.seat.now.view c.step_look_page-frame.new.seat.view c.load_frame-tps.new.seat.view c.args.s c.args.range c.args.c c.step_look_page-frame.result c.load_frame-tps.result c.requires.reader.host c.requires.reader.own c.step_look_page-frame.ensures.looked c.load_frame-tps.ensures.loaded in
    reader_on c.args.store.now c.args.seat.now c.load_frame-tps.new.seat c.args.s c.requires.reader skims.watched c.load_frame-tps.ensures.seat
