use Rattle.std.proofs.Common.{◌≡◌, ℕ, ◌++◌}
use Rattle.lst_model.specs.Tables.{row_of}
use Rattle.lst_machine.specs.Listings.{listed}
use Rattle.lst_machine.proofs.sight.Sight.rows.Given as goal

abbrev pub invariant-loop-key : goal.invariant-loop-key
invariant-loop-key l = l.rows ++ listed (λ (key : ℕ). row_of l.self.table key) l.key-iterator ≡ listed (λ (key : ℕ). row_of l.self.table key) l.self.keys.keys
