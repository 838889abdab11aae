use Rattle.std.proofs.Common.{ℕ, ◌+◌, sym, ap, ◌∙◌, arith}
use Rattle.lst_scan.proofs.Seen.{ones_seen}
use Rattle.lst_scan.proofs.Sheets.{count_added}
use Rattle.lst_scan.proofs.paged.with_rows.Goals.{then-walked, else-walked}
use Rattle.lst_scan.proofs.paged.with_rows.Goals as goal

pub returns-clause-rows : goal.returns-clause-rows
returns-clause-rows c = elim c.if-walked.branch [
  | then-walked w ↦ ap (λ (n : ℕ). c.args.walked.total + n) (w.entries-is ∙ sym (ones_seen c.args.begin c.args.times.now (c.requires.others w.if-walked.true) 256 (omega arith)))
  | else-walked w ↦ ap (λ (n : ℕ). c.args.walked.total + n) (w.entries-is ∙ (w.from-entries.ensures ∙ (w.count_where.ensures ∙ count_added c.args.begin c.args.times.now c.told-times)))
]
