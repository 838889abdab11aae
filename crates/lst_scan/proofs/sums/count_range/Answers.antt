use Rattle.std.proofs.Common.{◌+◌, ◌*◌, refl, arith}
use Rattle.lst_rule.proofs.Watching.{watches_join}
use Rattle.lst_scan.proofs.Folded.{none_saves, saves_join}
use Rattle.lst_scan.proofs.Sheets.{count_before}
use Rattle.lst_scan.proofs.sums.count_range.Goals as goal

pub returns-in-Some-clause-watched : goal.returns-in-Some-clause-watched
returns-in-Some-clause-watched c = watches_join c.args.seat.now.view c.frame_of.new.seat.view c.count_by_page.new.seat.view c.args.s c.frame_of.ensures.skims.watched c.count_by_page.ensures.watched

pub returns-in-Some-clause-count : goal.returns-in-Some-clause-count
returns-in-Some-clause-count c = let r = c.requires.reader in count_before c.args.seat.now.view c.frame_of.new.seat.view c.args.s (256 * c.args.range) (256 * (c.args.range + 1)) c.count_by_page.result c.consider.ensures r.host r.opened c.frame_of.ensures.skims.watched c.count_by_page.ensures.count

pub returns-in-None-clause-watched : goal.returns-in-None-clause-watched
returns-in-None-clause-watched c = watches_join c.args.seat.now.view c.frame_of.new.seat.view c.count_by_records.new.seat.view c.args.s c.frame_of.ensures.skims.watched c.count_by_records.ensures.watched

pub returns-in-None-clause-count : goal.returns-in-None-clause-count
returns-in-None-clause-count c = let r = c.requires.reader in count_before c.args.seat.now.view c.frame_of.new.seat.view c.args.s (256 * c.args.range) (256 * (c.args.range + 1)) c.count_by_records.result c.consider.ensures r.host r.opened c.frame_of.ensures.skims.watched c.count_by_records.ensures.count

pub count_by_page-requires-clause-told : goal.count_by_page-requires-clause-told
count_by_page-requires-clause-told c = c.in-Some.ensures.told

pub count_by_records-requires-clause-none : goal.count_by_records-requires-clause-none
count_by_records-requires-clause-none c = c.in-None.ensures.none refl

pub returns-in-Some-clause-saves : goal.returns-in-Some-clause-saves
returns-in-Some-clause-saves c = saves_join c.args.seat.now.view c.frame_of.new.seat.view c.count_by_page.new.seat.view c.args.s 0 (256 * c.args.range) (256 * c.args.range) (256 * (c.args.range + 1)) c.frame_of.ensures.skims.watched c.count_by_page.ensures.watched (omega arith) (omega arith)
    (none_saves c.args.seat.now.view c.frame_of.new.seat.view c.args.s 0 (256 * c.args.range) c.frame_of.ensures.skims.finds) c.count_by_page.ensures.saves

pub returns-in-None-clause-saves : goal.returns-in-None-clause-saves
returns-in-None-clause-saves c = saves_join c.args.seat.now.view c.frame_of.new.seat.view c.count_by_records.new.seat.view c.args.s 0 (256 * c.args.range) (256 * c.args.range) (256 * (c.args.range + 1)) c.frame_of.ensures.skims.watched c.count_by_records.ensures.watched (omega arith) (omega arith)
    (none_saves c.args.seat.now.view c.frame_of.new.seat.view c.args.s 0 (256 * c.args.range) c.frame_of.ensures.skims.finds) c.count_by_records.ensures.saves
