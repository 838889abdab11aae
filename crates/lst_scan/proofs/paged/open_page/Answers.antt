use Rattle.std.proofs.Common.{◌<◌, slice_index, sym, subst, ap, arith}
use Rattle.lst_layout.specs.declared.limits.Limits.{Limits}
use Rattle.lst_layout.specs.Areas.{frame_count}
use Rattle.lst_core_state.specs.declared.known.Known.{Known}
use Rattle.lst_pack.specs.Forms.{Packs}
use Rattle.lst_pages.specs.State.{hand_of}
use Rattle.lst_walk.specs.Packed.{skims_on, packed_of, Skims}
use Rattle.lst_scan.proofs.Sheets.{hand_low, hand_packed, hand_kept, stamps_loaded, stamps_values, stamps_skim}
use Rattle.lst_scan.proofs.Untold.{frame_still, stamps_told}
use Rattle.lst_walk.proofs.Reading.{reader_on}
use Rattle.lst_scan.proofs.paged.open_page.Goals as goal

pub load_packed-requires-clause-frame : goal.load_packed-requires-clause-frame
load_packed-requires-clause-frame c = let r = c.requires.reader in hand_low c.args.seat.now.view c.args.s c.args.range c.args.c c.args.frame c.consider.ensures r.host r.own c.requires.frame

pub load_packed-requires-clause-packed : goal.load_packed-requires-clause-packed
load_packed-requires-clause-packed c = let r = c.requires.reader in hand_packed c.args.seat.now.view c.args.s c.args.range c.args.c c.args.frame c.consider.ensures r.host r.own c.requires.frame

pub unpack-requires : goal.unpack-requires
unpack-requires c = let r = c.requires.reader in let packed = hand_packed c.args.seat.now.view c.args.s c.args.range c.args.c c.args.frame c.consider.ensures r.host r.own c.requires.frame in
    (packed.0, c.load_packed.ensures.packed packed.0 packed.1)

pub load_frame-tps-requires-clause-place : goal.load_frame-tps-requires-clause-place
load_frame-tps-requires-clause-place c = let r = c.requires.reader in (subst (λ (l : Limits). c.args.frame < frame_count l) (sym c.load_packed.ensures.skims.watched.learns.limits) (hand_low c.args.seat.now.view c.args.s c.args.range c.args.c c.args.frame c.consider.ensures r.host r.own c.requires.frame), omega arith)

pub load_times-requires-clause-run : goal.load_times-requires-clause-run
load_times-requires-clause-run c = let r = c.requires.reader in λ i short. (
  subst (λ (l : Limits). c.args.frame < frame_count l) (sym c.load_frame-tps.ensures.loaded.looked.view.limits)
      (subst (λ (l : Limits). c.args.frame < frame_count l) (sym c.load_packed.ensures.skims.watched.learns.limits) (hand_low c.args.seat.now.view c.args.s c.args.range c.args.c c.args.frame c.consider.ensures r.host r.own c.requires.frame)),
  omega arith,
)

pub returns-clause-skims : goal.returns-clause-skims
returns-clause-skims c = let r = c.requires.reader in let b = c.load_packed.ensures.reader in
    skims_on c.args.seat.now.view c.load_packed.new.seat.view c.load_times.new.seat.view c.args.s c.load_packed.ensures.skims
    (stamps_skim c.load_packed.new.seat.view c.load_frame-tps.new.seat.view c.load_times.new.seat.view c.args.s c.args.frame c.load_frame-tps.result (slice_index c.load_times.new.out) b.host
    (subst (λ (l : Limits). c.args.frame < frame_count l) (sym c.load_packed.ensures.skims.watched.learns.limits) (hand_low c.args.seat.now.view c.args.s c.args.range c.args.c c.args.frame c.consider.ensures r.host r.own c.requires.frame))
    c.load_frame-tps.ensures.loaded c.load_times.ensures.loads c.load_times.ensures.found)

pub returns-clause-page : goal.returns-clause-page
returns-clause-page c = let b = c.load_packed.ensures.reader in let low_a = subst (λ (l : Limits). c.args.s < l.sessions) (sym c.load_frame-tps.ensures.loaded.looked.view.limits) b.own in (
  stamps_loaded c.load_packed.new.seat.view c.load_frame-tps.new.seat.view c.load_times.new.seat.view c.args.s c.args.range c.args.c c.args.frame c.load_frame-tps.result c.load_times.new.out b.own low_a
      (hand_kept c.args.seat.now.view c.load_packed.new.seat.view c.args.s c.args.range c.args.c c.args.frame c.load_packed.ensures.same c.requires.frame) c.load_frame-tps.ensures.loaded c.load_times.array_long.2 c.load_times.ensures.found,
  stamps_values c.load_packed.new.seat.view c.load_frame-tps.new.seat.view c.load_times.new.seat.view c.args.s c.args.range c.args.c c.args.frame c.load_frame-tps.result c.load_times.new.out b.own low_a
      (hand_kept c.args.seat.now.view c.load_packed.new.seat.view c.args.s c.args.range c.args.c c.args.frame c.load_packed.ensures.same c.requires.frame) c.load_frame-tps.ensures.loaded c.load_times.array_long.2 c.load_times.ensures.found
      c.unpack.new.out (λ others packs. c.unpack.ensures others (c.load_packed.ensures.packed others (subst (λ ws. Packs ws others) (ap (λ (k : Known). packed_of (hand_of k.pages.session c.args.frame)) c.load_packed.ensures.same) packs))),
)

pub returns-clause-told : goal.returns-clause-told
returns-clause-told c = let r = c.requires.reader in let b = c.load_packed.ensures.reader in
    let skims = stamps_skim c.load_packed.new.seat.view c.load_frame-tps.new.seat.view c.load_times.new.seat.view c.args.s c.args.frame c.load_frame-tps.result (slice_index c.load_times.new.out) b.host
    (subst (λ (l : Limits). c.args.frame < frame_count l) (sym c.load_packed.ensures.skims.watched.learns.limits) (hand_low c.args.seat.now.view c.args.s c.args.range c.args.c c.args.frame c.consider.ensures r.host r.own c.requires.frame))
    c.load_frame-tps.ensures.loaded c.load_times.ensures.loads c.load_times.ensures.found in
    stamps_told c.load_packed.new.seat.view c.load_frame-tps.new.seat.view c.load_times.new.seat.view c.args.s c.args.range c.args.c c.args.frame c.load_frame-tps.result c.load_times.new.out skims.watched
    (frame_still c.args.seat.now.view c.load_packed.new.seat.view c.args.s c.args.range c.args.c c.args.frame c.load_packed.ensures.skims.watched c.requires.told) c.load_frame-tps.ensures.loaded c.load_times.ensures.loads

pub load_packed-requires-clause-reader : goal.load_packed-requires-clause-reader
load_packed-requires-clause-reader c = c.requires.reader

pub load_frame-tps-requires-clause-seat : goal.load_frame-tps-requires-clause-seat
load_frame-tps-requires-clause-seat c = c.load_packed.ensures.reader.seat_of

pub load_frame-tps-requires-clause-host : goal.load_frame-tps-requires-clause-host
load_frame-tps-requires-clause-host c = c.load_packed.ensures.reader.host

pub load_times-requires-clause-seat : goal.load_times-requires-clause-seat
load_times-requires-clause-seat c = c.load_frame-tps.ensures.seat

pub returns-clause-reader : goal.returns-clause-reader
returns-clause-reader c = let r = c.requires.reader in let b = c.load_packed.ensures.reader in
    let skims : Skims c.load_packed.new.seat.view c.load_times.new.seat.view c.args.s = stamps_skim c.load_packed.new.seat.view c.load_frame-tps.new.seat.view c.load_times.new.seat.view c.args.s c.args.frame c.load_frame-tps.result (slice_index c.load_times.new.out) b.host
    (subst (λ (l : Limits). c.args.frame < frame_count l) (sym c.load_packed.ensures.skims.watched.learns.limits) (hand_low c.args.seat.now.view c.args.s c.args.range c.args.c c.args.frame c.consider.ensures r.host r.own c.requires.frame))
    c.load_frame-tps.ensures.loaded c.load_times.ensures.loads c.load_times.ensures.found in
    reader_on c.args.store.now c.load_packed.new.seat c.load_times.new.seat c.args.s b skims.watched c.load_times.ensures.seat
