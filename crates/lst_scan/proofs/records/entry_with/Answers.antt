use Rattle.std.proofs.Common.{sym, ◌∙◌}
use Rattle.lst_scan.proofs.Seeing.{not_with}
use Rattle.lst_scan.proofs.records.entry_with.Goals as goal

pub returns-else-holds-clause-entry : goal.returns-else-holds-clause-entry
returns-else-holds-clause-entry c = let r = c.requires.reader in
    not_with c.args.seat.now.view c.args.s c.args.rec.number c.args.column c.args.number c.consider.ensures r.host (c.in_ok-key.key, c.in_ok-key.row) c.in_ok-key.ensures.entry (sym c.holds.ensures ∙ c.if-holds.false)
