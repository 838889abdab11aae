use Rattle.lst_walk.proofs.Reading.{reader_on}
use Rattle.lst_walk.proofs.Paging.{taken_skims}
use Rattle.lst_walk.proofs.pages.look.Goals as goal

pub returns-clause-skims : goal.returns-clause-skims
returns-clause-skims c = taken_skims c.args.seat.now.view c.step_look_page_from-frame.new.seat.view c.load_frame_from-tps.new.seat.view c.load_frame_from-stamp.new.seat.view c.args.s c.args.rec.number c.args.column c.step_look_page_from-frame.result c.load_frame_from-tps.result c.load_frame_from-stamp.result c.requires.reader.host c.requires.reader.own c.step_look_page_from-frame.ensures.looked c.load_frame_from-tps.ensures.loaded c.load_frame_from-stamp.ensures.loaded

pub returns-clause-reader : goal.returns-clause-reader
returns-clause-reader c = reader_on c.args.store.now c.args.seat.now c.load_frame_from-stamp.new.seat c.args.s c.requires.reader
    (taken_skims c.args.seat.now.view c.step_look_page_from-frame.new.seat.view c.load_frame_from-tps.new.seat.view c.load_frame_from-stamp.new.seat.view c.args.s c.args.rec.number c.args.column c.step_look_page_from-frame.result c.load_frame_from-tps.result c.load_frame_from-stamp.result c.requires.reader.host c.requires.reader.own c.step_look_page_from-frame.ensures.looked c.load_frame_from-tps.ensures.loaded c.load_frame_from-stamp.ensures.loaded).watched
    c.load_frame_from-stamp.ensures.seat

pub returns-clause-looks : goal.returns-clause-looks
returns-clause-looks c = record {
  taken = c.step_look_page_from-frame.new.seat.view;
  told = c.load_frame_from-tps.new.seat.view;
  page = c.step_look_page_from-frame.ensures.looked;
  lineage = c.load_frame_from-tps.ensures.loaded;
  time = c.load_frame_from-stamp.ensures.loaded;
}
