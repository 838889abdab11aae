use Rattle.std.proofs.Common.{subst}
use Rattle.std.specs.Prelude.{Bool}
use Rattle.lst_rule.specs.Rule.{knows}
use Rattle.lst_rule.proofs.Watching.{watches_join}
use Rattle.lst_walk.specs.Whole.{row_where}
use Rattle.lst_scan.specs.Scans.{IsRowOn}
use Rattle.lst_scan.proofs.Seeing.{entry_on}
use Rattle.lst_scan.proofs.records.put_entry.Goals as goal

pub returns-then-put_row_on-clause-watched : goal.returns-then-put_row_on-clause-watched
returns-then-put_row_on-clause-watched c = watches_join c.args.seat.now.view c.put_row_on.new.seat.view c.key_of.new.seat.view c.args.s c.put_row_on.ensures.watched c.key_of.ensures.watched

pub returns-then-put_row_on-clause-entry : goal.returns-then-put_row_on-clause-entry
returns-then-put_row_on-clause-entry c = let r = c.requires.reader in
    entry_on c.args.seat.now.view c.put_row_on.new.seat.view c.args.s c.args.rec.number c.key_of.result c.consider.ensures r.host r.opened c.put_row_on.ensures.watched c.put_row_on.new.row (subst (λ (b : Bool). IsRowOn (knows c.args.seat.now.view c.args.s) c.args.rec.number (row_where b c.put_row_on.new.row)) c.if-put_row_on.true c.put_row_on.ensures.row) c.key_of.ensures.key

pub returns-else-put_row_on-clause-entry : goal.returns-else-put_row_on-clause-entry
returns-else-put_row_on-clause-entry c = subst (λ (b : Bool). IsRowOn (knows c.args.seat.now.view c.args.s) c.args.rec.number (row_where b c.put_row_on.new.row)) c.if-put_row_on.false c.put_row_on.ensures.row
