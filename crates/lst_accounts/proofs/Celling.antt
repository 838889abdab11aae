-- The row of an account, by its length and its first cell.
use Rattle.std.proofs.Common.{◌≡◌, ◌≢◌, ℕ, List, [], ◌∷◌, length, refl, sym, ap, ◌∙◌, arith}
use Rattle.std.specs.Prelude.{Option, Some, None, IfSome, slice_get}
use Rattle.std.specs.Option.{option_flatten}
use Rattle.lst_model.specs.Cells.{Cell}
use Rattle.lst_model.specs.Lines.{IsPatch}
use Rattle.lst_accounts.specs.Books.{account, new_balance}

pub one_cell : (row : List Cell) (balance : ℕ) → length row ≡ 1 → option_flatten (slice_get row 0) ≡ Some balance → row ≡ account balance
one_cell [] balance size first = absurd (omega (arith, size))
one_cell (cell ∷ []) balance size first = ap (λ c. c ∷ []) first
one_cell (cell ∷ other ∷ row) balance size first = absurd (omega (arith, size))

none_some : {A : Type 0} (x : A) → None ≡ Some x → ⊥
none_some x is = cc

pub no_number : (row : List Cell) → option_flatten (slice_get row 0) ≡ None → (balance : ℕ) → row ≡ account balance → ⊥
no_number row first balance is = none_some balance (sym first ∙ ap (λ r. option_flatten (slice_get r 0)) is)

pub other_length : (row : List Cell) → length row ≢ 1 → (balance : ℕ) → row ≡ account balance → ⊥
other_length row differ balance is = differ (ap length is)

pub by_first : (row : List Cell) (found : Option ℕ) → length row ≡ 1 → found ≡ option_flatten (slice_get row 0) → IfSome found (λ balance. row ≡ account balance)
by_first row None size first = tt
by_first row (Some balance) size first = one_cell row balance size (sym first)

pub sets_balance : (balance : ℕ) → IsPatch 1 (new_balance balance)
sets_balance balance = record { width = refl; sets = (0, Some (Some balance), omega arith, refl, refl) }
