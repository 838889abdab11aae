-- The line of a past table.
use Rattle.std.proofs.Common.{◌≡◌, ℕ, ◌<◌, ◌≤◌, List, length, cond, true, false, codes, refl, sym, ap, ◌∙◌, arith}
use Rattle.std.proofs.lemmas.Bool.{lt-ltb, le-ltb}
use Rattle.lst_model.specs.declared.commits.Commit.{Commit}
use Rattle.lst_model.specs.Tables.{scan_of}
use Rattle.lst_model.specs.Histories.{table_at}
use Rattle.lst_past.specs.Past.{number_line, rows_line, table_line}

pub early_line : (history : List Commit) (time : ℕ) → time ≤ length history → rows_line (scan_of (table_at history time)) ≡ table_line history time
early_line history time early = sym (ap (λ b. cond b (number_line (codes "future ") (length history)) (rows_line (scan_of (table_at history time)))) (le-ltb (length history) time early))

pub late_line : (history : List Commit) (time until : ℕ) → length history ≡ until → until < time → number_line (codes "future ") until ≡ table_line history time
late_line history time until is late =
    ap (number_line (codes "future ")) (sym is)
    ∙ sym (ap (λ b. cond b (number_line (codes "future ") (length history)) (rows_line (scan_of (table_at history time)))) (lt-ltb (length history) time (omega (arith, is, late))))
