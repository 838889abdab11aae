-- The rows that the writes of a generated script make: each key has its balance.
use Rattle.std.proofs.Common.{◌≡◌, ◌≢◌, ◌⊎◌, ⊎_elim, inl, inr, ℕ, zero, suc, ◌+◌, ◌-◌, ◌<◌, ◌≤◌, Bool, false, cond, eqb, List, [], ◌∷◌, length, set, replicate, Option, Some, None, refl, sym, ap, subst, ◌∙◌, arith}
use Rattle.std.specs.Prelude.{slice_get}
use Rattle.std.proofs.lemmas.Bool.{cases_Bool, eqb-true, eqb-false}
use Rattle.lst_model.specs.Cells.{Cell}
use Rattle.lst_model.specs.declared.acts.Act.TheVariants.{Put, Set}
use Rattle.lst_model.specs.declared.acts.Write.{Write}
use Rattle.lst_model.specs.Histories.{acts_on, row_from}

-- the row of a number alone
abbrev pub row_with : ℕ → List Cell
row_with b = Some b ∷ []

abbrev pub row_of_balance : Option ℕ → Option (List Cell)
row_of_balance None = None
row_of_balance (Some b) = Some (row_with b)

-- the row of a key, where balances stand by rising key from 1 on
abbrev pub row_at : List ℕ → ℕ → Option (List Cell)
row_at bs zero = None
row_at bs (suc i) = row_of_balance (slice_get bs i)

abbrev pub put_write : ℕ → ℕ → Write
put_write key b = record { key = key; act = Put (Some b ∷ []) }

abbrev pub set_write : ℕ → ℕ → Write
set_write key b = record { key = key; act = Set (Some (Some b) ∷ []) }

-- ---- lists of balances

get_set : (bs : List ℕ) (i v : ℕ) → i < length bs → slice_get (set bs i v) i ≡ Some v
get_set [] i v low = absurd (omega arith)
get_set (b ∷ bs) zero v low = refl
get_set (b ∷ bs) (suc i) v low = get_set bs i v (omega arith)

get_set_other : (bs : List ℕ) (i k v : ℕ) → k ≢ i → slice_get (set bs k v) i ≡ slice_get bs i
get_set_other [] i k v other = refl
get_set_other (b ∷ bs) zero zero v other = absurd (other refl)
get_set_other (b ∷ bs) (suc i) zero v other = refl
get_set_other (b ∷ bs) zero (suc k) v other = refl
get_set_other (b ∷ bs) (suc i) (suc k) v other = get_set_other bs i k v (λ is. other (ap suc is))

get_there : (bs : List ℕ) (i : ℕ) → i < length bs → (b : ℕ) × (slice_get bs i ≡ Some b)
get_there [] i low = absurd (omega arith)
get_there (b ∷ bs) zero low = (b, refl)
get_there (b ∷ bs) (suc i) low = get_there bs i (omega arith)

pub row_there : (bs : List ℕ) (key : ℕ) → 0 < key → key ≤ length bs → (b : ℕ) × (row_at bs key ≡ Some (row_with b))
row_there bs zero some low = absurd (omega arith)
row_there bs (suc i) some low = let g = get_there bs i (omega arith) in (g.0, ap row_of_balance g.1)

pub row_other : (bs : List ℕ) (key k v : ℕ) → 0 < k → k ≢ key → row_at (set bs (k - 1) v) key ≡ row_at bs key
row_other bs zero k v some other = refl
row_other bs (suc i) k v some other = ap row_of_balance (get_set_other bs i (k - 1) v (λ is. other (omega arith)))

row_here : (bs : List ℕ) (k v : ℕ) → 0 < k → k ≤ length bs → row_at (set bs (k - 1) v) k ≡ Some (row_with v)
row_here bs zero v some low = absurd (omega arith)
row_here bs (suc i) v some low = ap (λ (m : ℕ). row_of_balance (slice_get (set bs m v) i)) (omega arith) ∙ ap row_of_balance (get_set bs i v (omega arith))

get_replicate : (m i : ℕ) → i < m → slice_get {X = ℕ} (replicate m 1000) i ≡ Some 1000
get_replicate zero i low = absurd (omega arith)
get_replicate (suc m) zero low = refl
get_replicate (suc m) (suc i) low = get_replicate m i (omega arith)

get_replicate_none : (m i : ℕ) → m ≤ i → slice_get {X = ℕ} (replicate m 1000) i ≡ None
get_replicate_none zero i low = refl
get_replicate_none (suc m) zero low = absurd (omega arith)
get_replicate_none (suc m) (suc i) low = get_replicate_none m i (omega arith)

pub row_replicate : (m key : ℕ) → 0 < key → key ≤ m → row_at (replicate m 1000) key ≡ Some (row_with 1000)
row_replicate m zero some low = absurd (omega arith)
row_replicate m (suc i) some low = ap row_of_balance (get_replicate m i (omega arith))

pub row_replicate_none : (m key : ℕ) → m < key → row_at (replicate m 1000) key ≡ None
row_replicate_none m zero low = refl
row_replicate_none m (suc i) low = ap row_of_balance (get_replicate_none m i (omega arith))

-- one key more
pub row_more : (m key : ℕ) → key ≢ m + 1 → row_at (replicate (suc m) 1000) key ≡ row_at (replicate m 1000) key
row_more m key other = elim (cases_Bool (eqb key 0)) [
  | inl none ↦ subst (λ (k : ℕ). row_at (replicate (suc m) 1000) k ≡ row_at (replicate m 1000) k) (sym (eqb-true key 0 none)) refl
  | inr some ↦ ⊎_elim
      (λ (low : key ≤ m). row_replicate (suc m) key (positive key some) (omega arith) ∙ sym (row_replicate m key (positive key some) low))
      (λ (high : m + 1 < key). row_replicate_none (suc m) key (omega arith) ∙ sym (row_replicate_none m key (omega arith)))
      (sides key m other)
]
  where
    positive : (key : ℕ) → eqb key 0 ≡ false → 0 < key
    positive key some = above key (eqb-false key 0 some)
      where
        above : (key : ℕ) → ¬ (key ≡ 0) → 0 < key
        above zero none = absurd (none refl)
        above (suc k) none = omega arith

    sides : (key m : ℕ) → key ≢ m + 1 → (key ≤ m) ⊎ (m + 1 < key)
    sides zero m other = inl (omega arith)
    sides (suc k) zero other = below k other
      where
        below : (k : ℕ) → suc k ≢ 0 + 1 → (suc k ≤ 0) ⊎ (0 + 1 < suc k)
        below zero none = absurd (none refl)
        below (suc k) none = inr (omega arith)
    sides (suc k) (suc m) other = ⊎_elim (λ (x : k ≤ m). inl (omega arith)) (λ (x : m + 1 < k). inr (omega arith)) (sides k m (λ is. other (omega arith)))

-- ---- writes

-- a balance that is set
pub set_row : (bs : List ℕ) (k v key : ℕ) → 0 < k → k ≤ length bs → row_from (row_at bs key) (acts_on key (set_write k v ∷ [])) ≡ row_at (set bs (k - 1) v) key
set_row bs k v key some low = elim (cases_Bool (eqb k key)) [
  | inl here ↦ let is : k ≡ key = eqb-true k key here in
      ap (λ (b : Bool). row_from (row_at bs key) (cond b (Set (Some (Some v) ∷ []) ∷ []) [])) here
      ∙ subst (λ (q : ℕ). row_from (row_at bs q) (Set (Some (Some v) ∷ []) ∷ []) ≡ row_at (set bs (k - 1) v) q) is
      (let g = row_there bs k some low in ap (λ (r : Option (List Cell)). row_from r (Set (Some (Some v) ∷ []) ∷ [])) g.1 ∙ sym (row_here bs k v some low))
  | inr other ↦ ap (λ (b : Bool). row_from (row_at bs key) (cond b (Set (Some (Some v) ∷ []) ∷ []) [])) other ∙ sym (row_other bs key k v some (eqb-false k key other))
]
