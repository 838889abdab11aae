use Rattle.std.proofs.Common.{◌≡◌, ℕ, ◌+◌, ◌*◌, slice_index, subst, ap, ◌∙◌, arith}
use Rattle.lst_model.specs.Cells.{number_at}
use Rattle.lst_model.specs.Tables.{sum_of}
use Rattle.lst_core_state.specs.declared.known.Known.{Known}
use Rattle.lst_rule.specs.Rule.{knows}
use Rattle.lst_rule.proofs.Watching.{watches_join}
use Rattle.lst_scan.specs.Scans.{table_seen, between}
use Rattle.lst_scan.specs.Savings.{SavesPart}
use Rattle.lst_scan.specs.Paged.{entries_add}
use Rattle.lst_scan.proofs.Folded.{none_saves, saves_join}
use Rattle.lst_scan.proofs.Sheets.{part_before}
use Rattle.lst_scan.proofs.paged.sum_by_page.Goals as goal

pub sum_untold-walked-requires-clause-page : goal.sum_untold-walked-requires-clause-page
sum_untold-walked-requires-clause-page c = c.open_page-tps.ensures.page.0

pub open_page-tps-requires-clause-told : goal.open_page-tps-requires-clause-told
open_page-tps-requires-clause-told c = c.requires.told

pub sum_untold-walked-requires-clause-told : goal.sum_untold-walked-requires-clause-told
sum_untold-walked-requires-clause-told c = c.open_page-tps.ensures.told

pub returns-clause-watched : goal.returns-clause-watched
returns-clause-watched c = watches_join c.args.seat.now.view c.open_page-tps.new.seat.view c.sum_untold-walked.new.seat.view c.args.s c.open_page-tps.ensures.skims.watched c.sum_untold-walked.ensures.watched

pub returns-clause-saves : goal.returns-clause-saves
returns-clause-saves c = let skims = c.open_page-tps.ensures.skims in let end : 256 * c.args.range + 256 ≡ 256 * (c.args.range + 1) = omega arith in
    subst (λ (n : ℕ). SavesPart c.args.seat.now.view c.sum_untold-walked.new.seat.view c.args.s c.args.c (256 * c.args.range) n) end
    (saves_join c.args.seat.now.view c.open_page-tps.new.seat.view c.sum_untold-walked.new.seat.view c.args.s c.args.c (256 * c.args.range) (256 * c.args.range) (256 * c.args.range + 256) skims.watched c.sum_untold-walked.ensures.watched (omega arith) (omega arith)
    (none_saves c.args.seat.now.view c.open_page-tps.new.seat.view c.args.s c.args.c (256 * c.args.range) skims.finds) c.sum_untold-walked.ensures.saves)

pub returns-clause-sum : goal.returns-clause-sum
returns-clause-sum c = let r = c.requires.reader in
    let begin_is : c.begin.result ≡ (knows c.open_page-tps.new.seat.view c.args.s).begin = c.begin.ensures ∙ ap (λ (k : Known). k.begin) c.sum_untold-walked.ensures.watched.watches.is in
    let lanes : c.with_entries.result ≡ c.sum_untold-walked.result.total + entries_add (knows c.open_page-tps.new.seat.view c.args.s).begin (slice_index c.sum_untold-walked.new.values) c.sum_untold-walked.new.times 256 =
    c.with_entries.ensures.sum ∙ ap (λ (b : ℕ). c.sum_untold-walked.result.total + entries_add b (slice_index c.sum_untold-walked.new.values) c.sum_untold-walked.new.times 256) begin_is in
    let end : 256 * c.args.range + 256 ≡ 256 * (c.args.range + 1) = omega arith in
    part_before c.args.seat.now.view c.open_page-tps.new.seat.view c.args.s (number_at c.args.c) (256 * c.args.range) (256 * (c.args.range + 1)) c.with_entries.result c.consider.ensures r.host r.opened c.open_page-tps.ensures.skims.watched
    (λ place places. lanes
    ∙ subst (λ (n : ℕ). c.sum_untold-walked.result.total + entries_add (knows c.open_page-tps.new.seat.view c.args.s).begin (slice_index c.sum_untold-walked.new.values) c.sum_untold-walked.new.times 256 ≡ sum_of (between place (256 * c.args.range) n (table_seen (knows c.open_page-tps.new.seat.view c.args.s))) c.args.c) end
    (c.sum_untold-walked.ensures.sum c.open_page-tps.ensures.page.0 c.open_page-tps.ensures.page.1 place places))
