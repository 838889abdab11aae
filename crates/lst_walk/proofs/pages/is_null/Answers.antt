use Rattle.std.proofs.Common.{ℕ, ◌+◌, ◌%◌, ◌/◌, ap, arith, ◌∙◌}
use Rattle.lst_layout.specs.declared.TheConstants.{FRAME_NULLS}
use Rattle.lst_model.specs.Cells.{has_bit}
use Rattle.lst_walk.proofs.Loading.{frame_skims, frame_knows, frame_word}
use Rattle.lst_walk.proofs.Reading.{reader_on}
use Rattle.lst_walk.proofs.pages.is_null.Goals as goal

pub returns-clause-skims : goal.returns-clause-skims
returns-clause-skims c = frame_skims c.args.seat.now.view c.load_frame-nulls.new.seat.view c.args.s c.args.frame (FRAME_NULLS + c.args.slot / 64) c.load_frame-nulls.result c.load_frame-nulls.ensures.loaded c.requires.reader.host c.requires.frame (let few = c.requires.slot in omega arith)

pub returns-clause-same : goal.returns-clause-same
returns-clause-same c = frame_knows c.args.seat.now.view c.load_frame-nulls.new.seat.view c.args.s c.args.frame (FRAME_NULLS + c.args.slot / 64) c.load_frame-nulls.result c.load_frame-nulls.ensures.loaded

pub returns-clause-null : goal.returns-clause-null
returns-clause-null c = λ words hand. c.is_bit.ensures ∙ ap (λ (n : ℕ). has_bit n (c.args.slot % 64)) (frame_word c.args.seat.now.view c.load_frame-nulls.new.seat.view c.args.s c.args.frame (FRAME_NULLS + c.args.slot / 64) c.load_frame-nulls.result c.load_frame-nulls.ensures.loaded words c.requires.reader.own hand (let few = c.requires.slot in omega arith))

pub load_frame-nulls-requires-clause-seat : goal.load_frame-nulls-requires-clause-seat
load_frame-nulls-requires-clause-seat c = c.requires.reader.seat_of

pub load_frame-nulls-requires-clause-host : goal.load_frame-nulls-requires-clause-host
load_frame-nulls-requires-clause-host c = c.requires.reader.host

pub load_frame-nulls-requires-clause-place : goal.load_frame-nulls-requires-clause-place
load_frame-nulls-requires-clause-place c = (c.requires.frame, (let few = c.requires.slot in omega arith))

pub returns-clause-reader : goal.returns-clause-reader
returns-clause-reader c = reader_on c.args.store.now c.args.seat.now c.load_frame-nulls.new.seat c.args.s c.requires.reader (frame_skims c.args.seat.now.view c.load_frame-nulls.new.seat.view c.args.s c.args.frame (FRAME_NULLS + c.args.slot / 64) c.load_frame-nulls.result c.load_frame-nulls.ensures.loaded c.requires.reader.host c.requires.frame (let few = c.requires.slot in omega arith)).watched c.load_frame-nulls.ensures.seat
