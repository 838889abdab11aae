-- An entry is a column of the row.
use Rattle.std.proofs.Common.{◌≡◌, ℕ, zero, suc, ◌+◌, ◌<◌, List, [], ◌∷◌, ◌++◌, Bool, true, false, cond, refl, sym, ap, ◌∙◌, arith, Option, Some, None, unwrap_or, length}
use Rattle.lst_bits.specs.Encodings.{kind_code}
use Rattle.lst_bits.specs.declared.encodings.Kind.{Kind}
use Rattle.lst_bits.specs.declared.encodings.Kind.TheVariants.{Put, Set, Del}
use Rattle.lst_model.specs.declared.acts.Act.{Act}
use Rattle.lst_model.specs.Cells.{Cell, has_bit, overlaid, patched}
use Rattle.lst_model.specs.Histories.{row_after, row_from}
use Rattle.lst_model.specs.Soundness.{Fits, FitInTurn}
use Rattle.lst_model.proofs.Overlays.{length-overlaid}
use Rattle.lst_core_state.specs.Cells.{act_with}
use Rattle.lst_core_state.specs.Lists.{acts}
use Rattle.lst_pages.specs.Lists.{Every}
use Rattle.lst_pages.specs.declared.tails.PageTail.{PageTail}
use Rattle.lst_pages.specs.declared.entries.Entry.{Entry}
use Rattle.lst_pages.specs.Tails.{touches_column}
use Rattle.lst_pages.specs.Entries.{entry_by, cell_by, folded}
use Rattle.lst_pages.specs.Rows.{act_of, cell_at, column_of, HasColumns}

-- what tails do, in order
abbrev pub acts_of : List PageTail → List Act
acts_of [] = []
acts_of (t ∷ ts) = act_of t ∷ acts_of ts

pub acts_of-append : (ts us : List PageTail) → acts_of (ts ++ us) ≡ acts_of ts ++ acts_of us
acts_of-append [] us = refl
acts_of-append (t ∷ ts) us = ap (λ (xs : List Act). act_of t ∷ xs) (acts_of-append ts us)

-- the acts of a choice of tails are what those tails do
pub acts-of : (p : ℕ → Bool) (a : ℕ → PageTail) (ys : List ℕ) → acts p (λ t. act_of (a t)) ys ≡ acts_of (acts p a ys)
acts-of p a [] = refl
acts-of p a (y ∷ ys) = step (p y) (acts-of p a ys)
  where
    step : (b : Bool) → acts p (λ t. act_of (a t)) ys ≡ acts_of (acts p a ys) → cond b (acts p (λ t. act_of (a t)) ys ++ act_of (a y) ∷ []) (acts p (λ t. act_of (a t)) ys) ≡ acts_of (cond b (acts p a ys ++ a y ∷ []) (acts p a ys))
    step true e = ap (λ (xs : List Act). xs ++ act_of (a y) ∷ []) e ∙ sym (acts_of-append (acts p a ys) (a y ∷ []))
    step false e = e

-- a patched row at a place
get-overlaid : (mask k : ℕ) (row cells : List Cell) (i j : ℕ) → j ≡ k + i → i < length row → i < length cells
    → cell_at i (overlaid row (patched mask k cells)) ≡ cond (has_bit mask j) (cell_at i cells) (cell_at i row)
get-overlaid mask k [] cells i j e low short = absurd (omega arith)
get-overlaid mask k (x ∷ row) [] i j e low short = absurd (omega arith)
get-overlaid mask k (x ∷ row) (y ∷ cells) zero j e low short = let same : k ≡ j = omega arith in first (has_bit mask k) ∙ ap (λ (m : ℕ). cond (has_bit mask m) y x) same
  where
    first : (b : Bool) → unwrap_or (cond b (Some y) None) x ≡ cond b y x
    first true = refl
    first false = refl
get-overlaid mask k (x ∷ row) (y ∷ cells) (suc i) j e low short = get-overlaid mask (suc k) row cells i j (omega arith) (omega arith) (omega arith)

module _ (n c : ℕ) (short : c < n) where
  -- one tail more
  step : (e : Entry) (row : Option (List Cell)) (k : Kind) (mask time : ℕ) (values : List Cell) → length values ≡ n → HasColumns n row → e.cell ≡ column_of c row → Fits row (act_with (kind_code k) mask values)
      → HasColumns n (row_after row (act_with (kind_code k) mask values)) × ((cond (touches_column c k mask) (let new : Entry = record { cell = cell_by c k values; time = time } in new) e).cell ≡ column_of c (row_after row (act_with (kind_code k) mask values)))
  step e None Put mask time values wide has is fits = (wide, refl)
  step e (Some row) Put mask time values wide has is fits = (wide, refl)
  step e None Set mask time values wide has is fits = absurd fits
  step e (Some row) Set mask time values wide has is fits = (length-overlaid row (patched mask 0 values) ∙ has, choose (has_bit mask c) refl)
    where
      choose : (b : Bool) → has_bit mask c ≡ b → (cond b (let new : Entry = record { cell = cell_by c Set values; time = time } in new) e).cell ≡ Some (cell_at c (overlaid row (patched mask 0 values)))
      choose true bit = ap Some (sym (get-overlaid mask 0 row values c c (omega arith) (omega arith) (omega arith) ∙ ap (λ (b : Bool). cond b (cell_at c values) (cell_at c row)) bit))
      choose false bit = is ∙ ap Some (sym (get-overlaid mask 0 row values c c (omega arith) (omega arith) (omega arith) ∙ ap (λ (b : Bool). cond b (cell_at c values) (cell_at c row)) bit))
  step e None Del mask time values wide has is fits = absurd fits
  step e (Some row) Del mask time values wide has is fits = (tt, refl)

  -- the fold of the tails of one record, of which each fits those before it, is the column of the row
  pub folded_column : (e : Entry) (row : Option (List Cell)) (ts : List PageTail) → Every (λ t. length t.values ≡ n) ts → HasColumns n row → e.cell ≡ column_of c row → FitInTurn row (acts_of ts)
      → (folded (λ t. touches_column c t.kind t.mask) c e ts).cell ≡ column_of c (row_from row (acts_of ts))
  folded_column e row [] wide has is fits = is
  folded_column e row (t ∷ ts) wide has is fits = let next = step e row t.kind t.mask t.time t.values wide.0 has is fits.0 in
      folded_column (cond (touches_column c t.kind t.mask) (entry_by c t) e) (row_after row (act_of t)) ts wide.1 next.0 next.1 fits.1
