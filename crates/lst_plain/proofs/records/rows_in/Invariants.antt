use Rattle.std.proofs.Common.{◌≡◌, ℕ, ◌++◌}
use Rattle.std.specs.BTreeMap.{keys}
use Rattle.lst_machine.specs.Listings.{listed}
use Rattle.lst_plain.specs.Rows.{row_seen, kept_of}
use Rattle.lst_plain.proofs.records.rows_in.Given as goal

abbrev pub invariant-loop-key : goal.invariant-loop-key
invariant-loop-key l =
    l.rows ++ listed (λ (key : ℕ). row_seen (kept_of l.records key) l.session l.begin) l.key-iterator ≡ listed (λ (key : ℕ). row_seen (kept_of l.records key) l.session l.begin) (keys l.places)
