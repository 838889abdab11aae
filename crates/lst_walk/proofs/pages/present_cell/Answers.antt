use Rattle.std.proofs.Common.{◌+◌, ◌/◌, arith, ℕ, ◌%◌, ◌<◌, sym, subst, ap, ◌∙◌, slice_index}
use Rattle.lst_layout.specs.declared.TheConstants.{FRAME_NULLS}
use Rattle.lst_walk.specs.Packed.{skims_on, packed_of}
use Rattle.lst_walk.proofs.Loading.{frame_skims, frame_knows, frame_word}
use Rattle.std.specs.Prelude.{Bool, Some, None, cond}
use Rattle.lst_layout.specs.declared.limits.Limits.{Limits}
use Rattle.lst_layout.specs.Areas.{frame_count}
use Rattle.lst_model.specs.Cells.{has_bit}
use Rattle.lst_core_state.specs.declared.known.Known.{Known}
use Rattle.lst_pages.specs.State.{hand_of}
use Rattle.lst_walk.proofs.Reading.{reader_on}
use Rattle.lst_pack.specs.Forms.{IsPacked, Packs}
use Rattle.lst_walk.proofs.pages.present_cell.Goals as goal

pub returns-then-is_bit-clause-skims : goal.returns-then-is_bit-clause-skims
returns-then-is_bit-clause-skims c = frame_skims c.args.seat.now.view c.load_frame-nulls.new.seat.view c.args.s c.args.frame (FRAME_NULLS + c.args.slot / 64) c.load_frame-nulls.result c.load_frame-nulls.ensures.loaded c.requires.reader.host c.requires.frame (let few = c.requires.slot in omega arith)

pub returns-else-is_bit-clause-skims : goal.returns-else-is_bit-clause-skims
returns-else-is_bit-clause-skims c = skims_on c.args.seat.now.view c.load_frame-nulls.new.seat.view c.value.new.seat.view c.args.s
    (frame_skims c.args.seat.now.view c.load_frame-nulls.new.seat.view c.args.s c.args.frame (FRAME_NULLS + c.args.slot / 64) c.load_frame-nulls.result c.load_frame-nulls.ensures.loaded c.requires.reader.host c.requires.frame (let few = c.requires.slot in omega arith)) c.value.ensures.skims

pub load_frame-nulls-requires-clause-seat : goal.load_frame-nulls-requires-clause-seat
load_frame-nulls-requires-clause-seat c = c.requires.reader.seat_of

pub load_frame-nulls-requires-clause-host : goal.load_frame-nulls-requires-clause-host
load_frame-nulls-requires-clause-host c = c.requires.reader.host

pub load_frame-nulls-requires-clause-place : goal.load_frame-nulls-requires-clause-place
load_frame-nulls-requires-clause-place c = (c.requires.frame, (let few = c.requires.slot in omega arith))

pub value-requires-clause-reader : goal.value-requires-clause-reader
value-requires-clause-reader c = reader_on c.args.store.now c.args.seat.now c.load_frame-nulls.new.seat c.args.s c.requires.reader (frame_skims c.args.seat.now.view c.load_frame-nulls.new.seat.view c.args.s c.args.frame (FRAME_NULLS + c.args.slot / 64) c.load_frame-nulls.result c.load_frame-nulls.ensures.loaded c.requires.reader.host c.requires.frame (let few = c.requires.slot in omega arith)).watched c.load_frame-nulls.ensures.seat

pub value-requires-clause-frame : goal.value-requires-clause-frame
value-requires-clause-frame c = subst (λ (l : Limits). c.args.frame < frame_count l) (sym (frame_skims c.args.seat.now.view c.load_frame-nulls.new.seat.view c.args.s c.args.frame (FRAME_NULLS + c.args.slot / 64) c.load_frame-nulls.result c.load_frame-nulls.ensures.loaded c.requires.reader.host c.requires.frame (let few = c.requires.slot in omega arith)).watched.learns.limits) c.requires.frame

pub value-requires-clause-packed : goal.value-requires-clause-packed
value-requires-clause-packed c = subst (λ (k : Known). IsPacked (packed_of (hand_of k.pages.session c.args.frame))) (sym (frame_knows c.args.seat.now.view c.load_frame-nulls.new.seat.view c.args.s c.args.frame (FRAME_NULLS + c.args.slot / 64) c.load_frame-nulls.result c.load_frame-nulls.ensures.loaded)) c.requires.packed

pub value-requires-clause-slot : goal.value-requires-clause-slot
value-requires-clause-slot c = c.requires.slot

pub returns-then-is_bit-clause-reader : goal.returns-then-is_bit-clause-reader
returns-then-is_bit-clause-reader c = reader_on c.args.store.now c.args.seat.now c.load_frame-nulls.new.seat c.args.s c.requires.reader (frame_skims c.args.seat.now.view c.load_frame-nulls.new.seat.view c.args.s c.args.frame (FRAME_NULLS + c.args.slot / 64) c.load_frame-nulls.result c.load_frame-nulls.ensures.loaded c.requires.reader.host c.requires.frame (let few = c.requires.slot in omega arith)).watched c.load_frame-nulls.ensures.seat

pub returns-then-is_bit-clause-cell : goal.returns-then-is_bit-clause-cell
returns-then-is_bit-clause-cell c = λ words hand values packs. sym (ap (λ (b : Bool). cond b None (Some (slice_index values c.args.slot))) (sym (c.is_bit.ensures ∙ ap (λ (n : ℕ). has_bit n (c.args.slot % 64)) (frame_word c.args.seat.now.view c.load_frame-nulls.new.seat.view c.args.s c.args.frame (FRAME_NULLS + c.args.slot / 64) c.load_frame-nulls.result c.load_frame-nulls.ensures.loaded words c.requires.reader.own hand (let few = c.requires.slot in omega arith))) ∙ c.if-is_bit.true))

pub returns-else-is_bit-clause-reader : goal.returns-else-is_bit-clause-reader
returns-else-is_bit-clause-reader c = c.value.ensures.reader

pub returns-else-is_bit-clause-cell : goal.returns-else-is_bit-clause-cell
returns-else-is_bit-clause-cell c = λ words hand values packs. ap (λ (n : ℕ). Some n) (c.value.ensures.value values (subst (λ (k : Known). Packs (packed_of (hand_of k.pages.session c.args.frame)) values) (sym (frame_knows c.args.seat.now.view c.load_frame-nulls.new.seat.view c.args.s c.args.frame (FRAME_NULLS + c.args.slot / 64) c.load_frame-nulls.result c.load_frame-nulls.ensures.loaded)) packs)) ∙ sym (ap (λ (b : Bool). cond b None (Some (slice_index values c.args.slot))) (sym (c.is_bit.ensures ∙ ap (λ (n : ℕ). has_bit n (c.args.slot % 64)) (frame_word c.args.seat.now.view c.load_frame-nulls.new.seat.view c.args.s c.args.frame (FRAME_NULLS + c.args.slot / 64) c.load_frame-nulls.result c.load_frame-nulls.ensures.loaded words c.requires.reader.own hand (let few = c.requires.slot in omega arith))) ∙ c.if-is_bit.false))
