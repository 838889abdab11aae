use Rattle.std.proofs.Common.{◌+◌, ◌*◌, refl, arith}
use Rattle.lst_model.specs.Cells.{number_at}
use Rattle.lst_rule.proofs.Watching.{watches_join}
use Rattle.lst_scan.proofs.Folded.{none_saves, saves_join}
use Rattle.lst_scan.proofs.Sheets.{part_before}
use Rattle.lst_scan.proofs.sums.sum_range.Goals as goal

pub sum_by_page-requires-clause-told : goal.sum_by_page-requires-clause-told
sum_by_page-requires-clause-told c = c.in-Some.ensures.told

pub returns-in-Some-clause-watched : goal.returns-in-Some-clause-watched
returns-in-Some-clause-watched c = watches_join c.args.seat.now.view c.frame_of.new.seat.view c.sum_by_page.new.seat.view c.args.s c.frame_of.ensures.skims.watched c.sum_by_page.ensures.watched

pub returns-in-Some-clause-sum : goal.returns-in-Some-clause-sum
returns-in-Some-clause-sum c = let r = c.requires.reader in part_before c.args.seat.now.view c.frame_of.new.seat.view c.args.s (number_at c.args.c) (256 * c.args.range) (256 * (c.args.range + 1)) c.sum_by_page.result c.consider.ensures r.host r.opened c.frame_of.ensures.skims.watched c.sum_by_page.ensures.sum

pub returns-in-None-clause-watched : goal.returns-in-None-clause-watched
returns-in-None-clause-watched c = watches_join c.args.seat.now.view c.frame_of.new.seat.view c.sum_by_records.new.seat.view c.args.s c.frame_of.ensures.skims.watched c.sum_by_records.ensures.watched

pub returns-in-None-clause-sum : goal.returns-in-None-clause-sum
returns-in-None-clause-sum c = let r = c.requires.reader in part_before c.args.seat.now.view c.frame_of.new.seat.view c.args.s (number_at c.args.c) (256 * c.args.range) (256 * (c.args.range + 1)) c.sum_by_records.result c.consider.ensures r.host r.opened c.frame_of.ensures.skims.watched c.sum_by_records.ensures.sum

pub sum_by_records-requires-clause-none : goal.sum_by_records-requires-clause-none
sum_by_records-requires-clause-none c = c.in-None.ensures.none refl

pub returns-in-Some-clause-saves : goal.returns-in-Some-clause-saves
returns-in-Some-clause-saves c = saves_join c.args.seat.now.view c.frame_of.new.seat.view c.sum_by_page.new.seat.view c.args.s c.args.c (256 * c.args.range) (256 * c.args.range) (256 * (c.args.range + 1)) c.frame_of.ensures.skims.watched c.sum_by_page.ensures.watched (omega arith) (omega arith)
    (none_saves c.args.seat.now.view c.frame_of.new.seat.view c.args.s c.args.c (256 * c.args.range) c.frame_of.ensures.skims.finds) c.sum_by_page.ensures.saves

pub returns-in-None-clause-saves : goal.returns-in-None-clause-saves
returns-in-None-clause-saves c = saves_join c.args.seat.now.view c.frame_of.new.seat.view c.sum_by_records.new.seat.view c.args.s c.args.c (256 * c.args.range) (256 * c.args.range) (256 * (c.args.range + 1)) c.frame_of.ensures.skims.watched c.sum_by_records.ensures.watched (omega arith) (omega arith)
    (none_saves c.args.seat.now.view c.frame_of.new.seat.view c.args.s c.args.c (256 * c.args.range) c.frame_of.ensures.skims.finds) c.sum_by_records.ensures.saves
