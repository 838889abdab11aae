-- The words of a tail in hand.
use Rattle.std.proofs.Common.{◌≡◌, ◌≢◌, ⊎_elim, ℕ, ◌+◌, ◌-◌, ◌*◌, ◌/◌, ◌%◌, ◌<◌, List, Bool, true, false, eqb, refl, sym, subst, ap, ◌∙◌, arith, true≢false}
use mathlib.Core.Logic.{dite}
use native.Mathlib.Decide.{ℕ_discrete}
use Rattle.std.specs.Prelude.{◌↔◌, IsTrue, Option, None, Some, not}
use Rattle.lst_layout.specs.declared.limits.Limits.{Limits}
use Rattle.lst_layout.specs.Words.{Words, shown}
use Rattle.lst_model.specs.declared.acts.Act.{Act}
use Rattle.lst_model.specs.declared.acts.Act.TheVariants.{Put, Set, Del}
use Rattle.lst_model.specs.Cells.{Cell, patched, cells_of}
use Rattle.lst_model.specs.Histories.{row_from}
use Rattle.lst_model.specs.Soundness.{Fits}
use Rattle.lst_core_state.specs.Lists.{acts}
use Rattle.lst_core_state.specs.declared.known.Hold.{Hold}
use Rattle.lst_core_state.specs.Cells.{kind_of, mask_of, nulls_of, IsColumn, IsCell, record_of, tail_range, act_of, listed}
use Rattle.lst_core_state.specs.State.{record_in, state_at, act_in, line}
use Rattle.lst_core.specs.Reading.{IsPresent, IsWhole, IsKind}
use Rattle.lst_core.proofs.Walking.{act_put, act_set, act_del}

pub record_is : (l : Limits) (cells : ℕ → ℕ → ℕ) (t word : ℕ) → word ≡ cells t 1 → 256 * ((t - 1) / l.tails) + word / 65536 % 256 ≡ record_in l cells t
unfolding record_of tail_range
record_is l cells t word is = ap (λ (x : ℕ). 256 * ((t - 1) / l.tails) + x / 65536 % 256) is

-- one more column is right
pub right_on : (word : ℕ) (value : ℕ → ℕ) (column : ℕ) → ((c : ℕ) → c < column → IsColumn word c (value c)) → IsColumn word column (value column) → (c : ℕ) → c < column + 1 → IsColumn word c (value c)
right_on word value column before here c h = dite (ℕ_discrete c column)
    (λ e. subst (λ (k : ℕ). IsColumn word k (value k)) (sym e) here)
    (λ ne. before c (omega arith))

-- ---- which acts fit

put_fits : (row : Option (List Cell)) (values : List Cell) → (Fits row (Put values) → ¬ IsPresent row) × (¬ IsPresent row → Fits row (Put values))
put_fits None values = (λ _ is. is, λ _. tt)
put_fits (Some x) values = (λ f _. f, λ none. none tt)

set_fits : (row : Option (List Cell)) (patch : List (Option Cell)) → (Fits row (Set patch) → IsPresent row) × (IsPresent row → Fits row (Set patch))
set_fits None patch = (λ f. f, λ f. f)
set_fits (Some x) patch = (λ _. tt, λ _. tt)

del_fits : (row : Option (List Cell)) → (Fits row Del → IsPresent row) × (IsPresent row → Fits row Del)
del_fits None = (λ f. f, λ f. f)
del_fits (Some x) = (λ _. tt, λ _. tt)

other_fits : (row : Option (List Cell)) (columns e : ℕ) (values : List ℕ) → IsKind columns e → kind_of e ≢ 1 → (Fits row (act_of e values) → IsPresent row) × (IsPresent row → Fits row (act_of e values))
other_fits row columns e values kind ne = ⊎_elim
    (λ q. absurd (ne q.0))
    (λ q. ⊎_elim
    (λ z. subst (λ (a : Act). (Fits row a → IsPresent row) × (IsPresent row → Fits row a)) (sym (act_set e values z.0)) (set_fits row (patched (mask_of e) 0 (cells_of (nulls_of e) 0 values))))
    (λ z. subst (λ (a : Act). (Fits row a → IsPresent row) × (IsPresent row → Fits row a)) (sym (act_del e values z.0)) (del_fits row)) q) kind

not_true : (b : Bool) → (not b ≡ true → ¬ (b ≡ true)) × (¬ (b ≡ true) → not b ≡ true)
not_true true = (λ e _. true≢false (sym e), λ n. absurd (n refl))
not_true false = (λ _ e. true≢false (sym e), λ _. refl)

module _ (l : Limits) (ws : List ℕ) (h : Hold) where
  abbrev w : Words
  w = shown l ws

  abbrev before : List Act
  before = acts (λ t. not (eqb (state_at w t) 1)) (act_in l w.cells) (line l w (h.latch - 1))

  module _ (cell : IsCell l.columns (w.cells h.tail 1) (λ c. w.cells h.tail (3 + c))) (own : record_in l w.cells h.tail ≡ h.latch - 1) (word : ℕ) (is : word ≡ w.cells h.tail 1) (present : Bool) (says : IsTrue present ↔ IsPresent (row_from None before)) where
    abbrev row : Option (List Cell)
    row = row_from None before

    abbrev values : List ℕ
    values = listed (w.cells h.tail) 3 l.columns

    pub whole_put : word / 256 % 256 ≡ 1 → IsTrue (not present) ↔ IsWhole l ws h
    whole_put one = let a = act_put (w.cells h.tail 1) values (sym (ap kind_of is) ∙ one) in let n = not_true present in let f = put_fits row (cells_of (nulls_of (w.cells h.tail 1)) 0 values) in (
      λ t. (cell, own, subst (λ (x : Act). Fits row x) (sym a) (f.1 (λ p. n.0 t (says.1 p)))),
      λ q. n.1 (λ p. f.0 (subst (λ (x : Act). Fits row x) a q.2) (says.0 p)),
    )

    pub whole_other : word / 256 % 256 ≢ 1 → IsTrue present ↔ IsWhole l ws h
    whole_other ne = let f = other_fits row l.columns (w.cells h.tail 1) values cell.kind (λ e. ne (ap kind_of is ∙ e)) in (
      λ t. (cell, own, f.1 (says.0 t)),
      λ q. says.1 (f.0 q.2),
    )
