-- A merge, and a transaction that is aborted at once, in either order: two scripts that leave the same words of a store.
use Rattle.std.specs.Prelude.{◌≡◌, ℕ, List, [], ◌∷◌, ◌++◌, None}
use Rattle.lst_layout.specs.declared.limits.Limits.{Limits}
use Rattle.lst_model.specs.declared.lines.Line.{Line}
use Rattle.lst_model.specs.declared.lines.Line.TheVariants.{Merge, Call}
use Rattle.lst_model.specs.declared.lines.Call.TheVariants.{Begin, Abort}
use Rattle.lst_machine.specs.State.{opening}
use Rattle.lst_machine.specs.Machine.{state_after}

-- a session begins a transaction, and ends it without a commit
abbrev pub aborted_transaction : ℕ → List Line
aborted_transaction session = Call session Begin ∷ Call session Abort ∷ []

-- after any script, where the session has no open transaction: the machine comes to one state, whether a merge comes before the session's
-- next transaction, which is aborted at once, or after it
abbrev pub OrderIsForgotten : Type 0
OrderIsForgotten = (limits : Limits) (script : List Line) (session range column : ℕ) → (state_after limits opening script).store.opened session ≡ None
    → state_after limits opening (script ++ (Merge range column ∷ aborted_transaction session))
    ≡ state_after limits opening (script ++ (aborted_transaction session ++ Merge range column ∷ []))
