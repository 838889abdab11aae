-- Lists, and sums: nothing here speaks of a page or of a state.
use Rattle.std.specs.Prelude.{◌≡◌, ◌⊎◌, ℕ, zero, suc, ◌+◌, List, [], ◌∷◌, ◌++◌, slice_index_or, slice_set}
pub use Rattle.lst_layout.specs.Functions.{listed}
pub use Rattle.lst_core_state.specs.Pages.{rows_of}

-- P holds of each item
abbrev pub Every : {A : Type 0} → (A → Type 0) → List A → Type 0
Every P [] = Unit {0}
Every P (x ∷ xs) = P x × Every P xs

-- P holds of some item
abbrev pub Any : {A : Type 0} → (A → Type 0) → List A → Type 0
Any P [] = ⊥
Any P (x ∷ xs) = P x ⊎ Any P xs

-- P holds of the first item, if there is one
abbrev pub First : {A : Type 0} → (A → Type 0) → List A → Type 0
First P [] = Unit {0}
First P (x ∷ xs) = P x

-- there is a first item, and P holds of it
abbrev pub HasFirst : {A : Type 0} → (A → Type 0) → List A → Type 0
HasFirst P [] = ⊥
HasFirst P (x ∷ xs) = P x

-- all but the first item
abbrev pub rest : {A : Type 0} → List A → List A
rest [] = []
rest (x ∷ xs) = xs

-- f 0 + f 1 + .., n summands
abbrev pub total : (ℕ → ℕ) → ℕ → ℕ
total f zero = 0
total f (suc n) = total f n + f n

-- a word of a row
abbrev pub word_in : List (List ℕ) → ℕ → ℕ → ℕ
word_in rows i j = slice_index_or (slice_index_or rows i []) j 0

-- the rows with x there
abbrev pub with_word_in : List (List ℕ) → ℕ → ℕ → ℕ → List (List ℕ)
with_word_in rows i j x = slice_set rows i (slice_set (slice_index_or rows i []) j x)

-- a list goes on where another one ends
abbrev pub GoesOn : {A : Type 0} → List A → List A → Type 0
GoesOn {A} longer shorter = (more : List A) × (longer ≡ shorter ++ more)
