use Rattle.std.proofs.Common.{◌≡◌, ◌<◌, slice_index, refl, subst, sym, arith}
use Rattle.lst_layout.specs.declared.limits.Limits.{Limits}
use Rattle.lst_layout.specs.Areas.{frame_count}
use Rattle.lst_walk.specs.Packed.{packed_words}
use Rattle.lst_scan.proofs.Loading.{packed_none, packed_some, packed_found, packed_next, packed_form, packed_end, packed_whole}
use Rattle.lst_scan.proofs.paged.load_packed.Goals as goal

pub words_for-place-end-requires : goal.words_for-place-end-requires
words_for-place-end-requires c = let first : c.load_frame-first.result ≡ slice_index (packed_words c.args.seat.now.view c.args.s c.args.frame) 0 =
    packed_found c.args.store.now c.args.seat.now.view c.args.seat.now c.load_frame-first.new.seat c.args.s c.args.frame 0 c.args.out.now (packed_none c.args.store.now c.args.seat.now c.args.s c.args.frame c.args.out.now c.requires.reader c.told-out)
    c.load_frame-first.result c.load_frame-first.ensures.loaded (packed_some c.args.seat.now.view c.args.s c.args.frame c.requires.packed) in
    record { form = packed_form c.args.seat.now.view c.args.s c.args.frame c.load_frame-first.result c.requires.packed.0 first c.requires.packed.1 }

pub loop-place-init : goal.loop-place-init
loop-place-init c = packed_next c.args.store.now c.args.seat.now.view c.args.seat.now c.load_frame-first.new.seat c.args.s c.args.frame 0 c.args.out.now (packed_none c.args.store.now c.args.seat.now c.args.s c.args.frame c.args.out.now c.requires.reader c.told-out)
    c.load_frame-first.result c.load_frame-first.ensures.loaded (packed_some c.args.seat.now.view c.args.s c.args.frame c.requires.packed) _ c.load_frame-first.ensures.seat c.requires.frame refl

pub load_frame-requires-clause-place : goal.load_frame-requires-clause-place
load_frame-requires-clause-place c = let first : c.load_frame-first.result ≡ slice_index (packed_words c.args.seat.now.view c.args.s c.args.frame) 0 =
    packed_found c.args.store.now c.args.seat.now.view c.args.seat.now c.load_frame-first.new.seat c.args.s c.args.frame 0 c.args.out.now (packed_none c.args.store.now c.args.seat.now c.args.s c.args.frame c.args.out.now c.requires.reader c.told-out)
    c.load_frame-first.result c.load_frame-first.ensures.loaded (packed_some c.args.seat.now.view c.args.s c.args.frame c.requires.packed) in
    let end = packed_end c.args.seat.now.view c.args.s c.args.frame c.load_frame-first.result c.words_for-place-end.result first c.words_for-place-end.ensures c.requires.packed in
    let low = c.loop-place-test.true in (subst (λ (l : Limits). c.args.frame < frame_count l) (sym c.loop-place.invariant.skims.watched.learns.limits) c.requires.frame, omega arith)

pub bounds-out-place : goal.bounds-out-place
bounds-out-place c = let first : c.load_frame-first.result ≡ slice_index (packed_words c.args.seat.now.view c.args.s c.args.frame) 0 =
    packed_found c.args.store.now c.args.seat.now.view c.args.seat.now c.load_frame-first.new.seat c.args.s c.args.frame 0 c.args.out.now (packed_none c.args.store.now c.args.seat.now c.args.s c.args.frame c.args.out.now c.requires.reader c.told-out)
    c.load_frame-first.result c.load_frame-first.ensures.loaded (packed_some c.args.seat.now.view c.args.s c.args.frame c.requires.packed) in
    let end = packed_end c.args.seat.now.view c.args.s c.args.frame c.load_frame-first.result c.words_for-place-end.result first c.words_for-place-end.ensures c.requires.packed in
    let low = c.loop-place-test.true in omega arith

pub loop-place-preserved : goal.loop-place-preserved
loop-place-preserved c = let first : c.load_frame-first.result ≡ slice_index (packed_words c.args.seat.now.view c.args.s c.args.frame) 0 =
    packed_found c.args.store.now c.args.seat.now.view c.args.seat.now c.load_frame-first.new.seat c.args.s c.args.frame 0 c.args.out.now (packed_none c.args.store.now c.args.seat.now c.args.s c.args.frame c.args.out.now c.requires.reader c.told-out)
    c.load_frame-first.result c.load_frame-first.ensures.loaded (packed_some c.args.seat.now.view c.args.s c.args.frame c.requires.packed) in
    let end = packed_end c.args.seat.now.view c.args.s c.args.frame c.load_frame-first.result c.words_for-place-end.result first c.words_for-place-end.ensures c.requires.packed in
    let low = c.loop-place-test.true in
    packed_next c.args.store.now c.args.seat.now.view c.loop-place.seat c.load_frame.new.seat c.args.s c.args.frame c.loop-place.place c.loop-place.out c.loop-place.invariant
    c.load_frame.result c.load_frame.ensures.loaded (omega arith) _ c.load_frame.ensures.seat c.requires.frame refl

pub returns-clause-packed : goal.returns-clause-packed
returns-clause-packed c = let first : c.load_frame-first.result ≡ slice_index (packed_words c.args.seat.now.view c.args.s c.args.frame) 0 =
    packed_found c.args.store.now c.args.seat.now.view c.args.seat.now c.load_frame-first.new.seat c.args.s c.args.frame 0 c.args.out.now (packed_none c.args.store.now c.args.seat.now c.args.s c.args.frame c.args.out.now c.requires.reader c.told-out)
    c.load_frame-first.result c.load_frame-first.ensures.loaded (packed_some c.args.seat.now.view c.args.s c.args.frame c.requires.packed) in
    let last = c.loop-place-test.false in
    λ values packs. packed_whole c.args.seat.now.view c.args.s c.args.frame c.load_frame-first.result c.words_for-place-end.result c.loop-place.out values first c.words_for-place-end.ensures c.loop-place.invariant.wide
    (λ i low. c.loop-place.invariant.are i (omega arith)) packs
