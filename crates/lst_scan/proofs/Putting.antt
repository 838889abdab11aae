-- Which act put a number into a row.
use Rattle.std.proofs.Common.{◌≡◌, ◌⊎◌, ℕ, zero, suc, Bool, true, false, List, [], ◌∷◌, Contains, refl, sym, ap, ◌∙◌, arith, inl, inr, ⊎_elim, true≢false}
use Rattle.std.proofs.lemmas.List.Elements.{Contains-append_right}
use Rattle.std.specs.Prelude.{Option, Some, None, slice_get}
use Rattle.std.specs.Option.{option_flatten}
use Rattle.lst_model.specs.declared.acts.Act.{Act}
use Rattle.lst_model.specs.declared.acts.Act.TheVariants.{Put, Set, Del}
use Rattle.lst_model.specs.Cells.{Cell, is_number, holds_at, overlaid}
use Rattle.lst_model.specs.Histories.{row_after, row_from}
use Rattle.lst_core_state.specs.State.{sight}
use Rattle.lst_second.specs.Candidates.{puts_number}
use Rattle.lst_scan.specs.Laws.{NumbersWerePut}
use Rattle.lst_scan.proofs.Seeing.{row_seen}

abbrev row_holds : ℕ → ℕ → Option (List Cell) → Bool
row_holds column number None = false
row_holds column number (Some row) = holds_at column number row

-- by the row, or by the patch on it
overlaid_holds : (column number : ℕ) (row : List Cell) (patch : List (Option Cell)) → holds_at column number (overlaid row patch) ≡ true → (holds_at column number row ≡ true) ⊎ (is_number number (option_flatten (option_flatten (slice_get patch column))) ≡ true)
overlaid_holds column number [] patch e = inl e
overlaid_holds column number (cell ∷ row) [] e = inl e
overlaid_holds zero number (cell ∷ row) (None ∷ patch) e = inl e
overlaid_holds zero number (cell ∷ row) (Some x ∷ patch) e = inr e
overlaid_holds (suc column) number (cell ∷ row) (change ∷ patch) e = overlaid_holds column number row patch e

-- by the row before, or by the act
after_holds : (column number : ℕ) (row : Option (List Cell)) (act : Act) → row_holds column number (row_after row act) ≡ true → (row_holds column number row ≡ true) ⊎ (puts_number column number act ≡ true)
after_holds column number row (Put cells) e = inr e
after_holds column number None (Set patch) e = inl e
after_holds column number (Some row) (Set patch) e = overlaid_holds column number row patch e
after_holds column number None Del e = inl e
after_holds column number (Some row) Del e = absurd (true≢false (sym e))

from_holds : (column number : ℕ) (row : Option (List Cell)) (acts : List Act) → row_holds column number (row_from row acts) ≡ true → (row_holds column number row ≡ true) ⊎ ((act : Act) × Contains acts act × (puts_number column number act ≡ true))
from_holds column number row [] e = inl e
from_holds column number row (act ∷ acts) e = ⊎_elim
    (λ (first : row_holds column number (row_after row act) ≡ true). ⊎_elim
    (λ (before : row_holds column number row ≡ true). inl before)
    (λ (here : puts_number column number act ≡ true). inr (act, (0, omega arith, refl), here))
    (after_holds column number row act first))
    (λ (later : (a : Act) × Contains acts a × (puts_number column number a ≡ true)). inr (later.0, Contains-append_right (act ∷ []) acts later.0 later.1, later.2))
    (from_holds column number (row_after row act) acts e)

pub numbers_were_put : NumbersWerePut
numbers_were_put k key column number row at holds = ⊎_elim
    (λ (nothing : row_holds column number None ≡ true). absurd (true≢false (sym nothing)))
    (λ (put : (act : Act) × Contains (sight k key) act × (puts_number column number act ≡ true)). put)
    (from_holds column number None (sight k key) (ap (row_holds column number) (sym (row_seen k key) ∙ at) ∙ holds))
