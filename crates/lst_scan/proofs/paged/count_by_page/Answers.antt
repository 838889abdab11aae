use Rattle.std.proofs.Common.{◌≡◌, ℕ, ◌+◌, ◌*◌, ◌<◌, slice_index, sym, subst, ap, ◌∙◌, arith}
use Rattle.lst_layout.specs.declared.limits.Limits.{Limits}
use Rattle.lst_layout.specs.Areas.{frame_count}
use Rattle.lst_model.specs.Tables.{count_of}
use Rattle.lst_core_state.specs.declared.known.Known.{Known}
use Rattle.lst_rule.specs.Rule.{knows}
use Rattle.lst_rule.proofs.Watching.{watches_join}
use Rattle.lst_walk.specs.Packed.{Skims}
use Rattle.lst_scan.specs.Scans.{table_seen, between}
use Rattle.lst_scan.specs.Paged.{entries_add}
use Rattle.lst_scan.specs.Savings.{SavesPart}
use Rattle.lst_scan.proofs.Folded.{none_saves, saves_join}
use Rattle.lst_scan.proofs.Sheets.{hand_low, stamps_loaded, stamps_skim, count_before}
use Rattle.lst_scan.proofs.Untold.{stamps_told}
use Rattle.lst_walk.proofs.Reading.{reader_on}
use Rattle.lst_scan.proofs.paged.count_by_page.Goals as goal

pub load_times-requires-clause-run : goal.load_times-requires-clause-run
load_times-requires-clause-run c = let r = c.requires.reader in λ i short. (subst (λ (l : Limits). c.args.frame < frame_count l) (sym c.load_frame-tps.ensures.loaded.looked.view.limits) (hand_low c.args.seat.now.view c.args.s c.args.range 0 c.args.frame c.consider.ensures r.host r.own c.requires.frame), omega arith)

pub count_untold-walked-requires-clause-page : goal.count_untold-walked-requires-clause-page
count_untold-walked-requires-clause-page c = let r = c.requires.reader in stamps_loaded c.args.seat.now.view c.load_frame-tps.new.seat.view c.load_times.new.seat.view c.args.s c.args.range 0 c.args.frame c.load_frame-tps.result c.load_times.new.out
    r.own (subst (λ (l : Limits). c.args.s < l.sessions) (sym c.load_frame-tps.ensures.loaded.looked.view.limits) r.own) c.requires.frame c.load_frame-tps.ensures.loaded c.load_times.array_long c.load_times.ensures.found

pub count_untold-walked-requires-clause-told : goal.count_untold-walked-requires-clause-told
count_untold-walked-requires-clause-told c = let r = c.requires.reader in
    let skims : Skims c.args.seat.now.view c.load_times.new.seat.view c.args.s = stamps_skim c.args.seat.now.view c.load_frame-tps.new.seat.view c.load_times.new.seat.view c.args.s c.args.frame c.load_frame-tps.result (slice_index c.load_times.new.out) r.host
    (hand_low c.args.seat.now.view c.args.s c.args.range 0 c.args.frame c.consider.ensures r.host r.own c.requires.frame) c.load_frame-tps.ensures.loaded c.load_times.ensures.loads c.load_times.ensures.found in
    stamps_told c.args.seat.now.view c.load_frame-tps.new.seat.view c.load_times.new.seat.view c.args.s c.args.range 0 c.args.frame c.load_frame-tps.result c.load_times.new.out skims.watched c.requires.told c.load_frame-tps.ensures.loaded c.load_times.ensures.loads

pub returns-clause-saves : goal.returns-clause-saves
returns-clause-saves c = let r = c.requires.reader in
    let skims : Skims c.args.seat.now.view c.load_times.new.seat.view c.args.s = stamps_skim c.args.seat.now.view c.load_frame-tps.new.seat.view c.load_times.new.seat.view c.args.s c.args.frame c.load_frame-tps.result (slice_index c.load_times.new.out) r.host
    (hand_low c.args.seat.now.view c.args.s c.args.range 0 c.args.frame c.consider.ensures r.host r.own c.requires.frame) c.load_frame-tps.ensures.loaded c.load_times.ensures.loads c.load_times.ensures.found in
    let end : 256 * c.args.range + 256 ≡ 256 * (c.args.range + 1) = omega arith in
    subst (λ (n : ℕ). SavesPart c.args.seat.now.view c.count_untold-walked.new.seat.view c.args.s 0 (256 * c.args.range) n) end
    (saves_join c.args.seat.now.view c.load_times.new.seat.view c.count_untold-walked.new.seat.view c.args.s 0 (256 * c.args.range) (256 * c.args.range) (256 * c.args.range + 256) skims.watched c.count_untold-walked.ensures.watched (omega arith) (omega arith)
    (none_saves c.args.seat.now.view c.load_times.new.seat.view c.args.s 0 (256 * c.args.range) skims.finds) c.count_untold-walked.ensures.saves)

pub returns-clause-watched : goal.returns-clause-watched
returns-clause-watched c = let r = c.requires.reader in
    let skims : Skims c.args.seat.now.view c.load_times.new.seat.view c.args.s = stamps_skim c.args.seat.now.view c.load_frame-tps.new.seat.view c.load_times.new.seat.view c.args.s c.args.frame c.load_frame-tps.result (slice_index c.load_times.new.out) r.host
    (hand_low c.args.seat.now.view c.args.s c.args.range 0 c.args.frame c.consider.ensures r.host r.own c.requires.frame) c.load_frame-tps.ensures.loaded c.load_times.ensures.loads c.load_times.ensures.found in
    watches_join c.args.seat.now.view c.load_times.new.seat.view c.count_untold-walked.new.seat.view c.args.s skims.watched c.count_untold-walked.ensures.watched

pub returns-clause-count : goal.returns-clause-count
returns-clause-count c = let r = c.requires.reader in
    let skims : Skims c.args.seat.now.view c.load_times.new.seat.view c.args.s = stamps_skim c.args.seat.now.view c.load_frame-tps.new.seat.view c.load_times.new.seat.view c.args.s c.args.frame c.load_frame-tps.result (slice_index c.load_times.new.out) r.host
    (hand_low c.args.seat.now.view c.args.s c.args.range 0 c.args.frame c.consider.ensures r.host r.own c.requires.frame) c.load_frame-tps.ensures.loaded c.load_times.ensures.loads c.load_times.ensures.found in
    let begin_is : c.begin.result ≡ (knows c.load_times.new.seat.view c.args.s).begin = c.begin.ensures ∙ ap (λ (k : Known). k.begin) c.count_untold-walked.ensures.watched.watches.is in
    let lanes : c.with_rows.result ≡ c.count_untold-walked.result.total + entries_add (knows c.load_times.new.seat.view c.args.s).begin (λ (slot : ℕ). 1) c.count_untold-walked.new.times 256 =
    c.with_rows.ensures.rows ∙ ap (λ (b : ℕ). c.count_untold-walked.result.total + entries_add b (λ (slot : ℕ). 1) c.count_untold-walked.new.times 256) begin_is in
    let end : 256 * c.args.range + 256 ≡ 256 * (c.args.range + 1) = omega arith in
    count_before c.args.seat.now.view c.load_times.new.seat.view c.args.s (256 * c.args.range) (256 * (c.args.range + 1)) c.with_rows.result c.consider.ensures r.host r.opened skims.watched
    (λ place places. lanes
    ∙ subst (λ (n : ℕ). c.count_untold-walked.result.total + entries_add (knows c.load_times.new.seat.view c.args.s).begin (λ (slot : ℕ). 1) c.count_untold-walked.new.times 256 ≡ count_of (between place (256 * c.args.range) n (table_seen (knows c.load_times.new.seat.view c.args.s)))) end
    (c.count_untold-walked.ensures.count place places))

pub load_frame-tps-requires-clause-seat : goal.load_frame-tps-requires-clause-seat
load_frame-tps-requires-clause-seat c = c.requires.reader.seat_of

pub load_frame-tps-requires-clause-host : goal.load_frame-tps-requires-clause-host
load_frame-tps-requires-clause-host c = c.requires.reader.host

pub load_times-requires-clause-seat : goal.load_times-requires-clause-seat
load_times-requires-clause-seat c = c.load_frame-tps.ensures.seat

pub count_untold-walked-requires-clause-reader : goal.count_untold-walked-requires-clause-reader
count_untold-walked-requires-clause-reader c = let r = c.requires.reader in
    let skims : Skims c.args.seat.now.view c.load_times.new.seat.view c.args.s = stamps_skim c.args.seat.now.view c.load_frame-tps.new.seat.view c.load_times.new.seat.view c.args.s c.args.frame c.load_frame-tps.result (slice_index c.load_times.new.out) r.host
    (hand_low c.args.seat.now.view c.args.s c.args.range 0 c.args.frame c.consider.ensures r.host r.own c.requires.frame) c.load_frame-tps.ensures.loaded c.load_times.ensures.loads c.load_times.ensures.found in
    reader_on c.args.store.now c.args.seat.now c.load_times.new.seat c.args.s r skims.watched c.load_times.ensures.seat

pub count_untold-walked-requires-clause-range : goal.count_untold-walked-requires-clause-range
count_untold-walked-requires-clause-range c = c.requires.range

pub returns-clause-reader : goal.returns-clause-reader
returns-clause-reader c = c.count_untold-walked.ensures.reader

pub returns-clause-few : goal.returns-clause-few
returns-clause-few c = c.with_rows.ensures.few
