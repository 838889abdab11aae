-- The name of a column is read as that column, where no two names are the same.
use Rattle.std.proofs.Common.{◌≡◌, ℕ, zero, suc, ◌+◌, ◌<◌, ◌||◌, Bool, true, false, not, List, [], ◌∷◌, ◌++◌, codes, decimal, length, Some, bytes_eq, refl, sym, ap, ◌∙◌, arith}
use Rattle.std.specs.Prelude.{slice_get}
use Rattle.std.specs.List.{list_any, position_or_len}
use Rattle.std.proofs.lemmas.Bool.{and_parts, lt-ltb, false≢true}
use Rattle.std.proofs.lemmas.Slice.Eq.{bytes_eq-Decides}
use Rattle.lst_names.specs.Names.{are_different}
use Rattle.lst_script.specs.Headers.{names_from}
use Rattle.lst_script.specs.Columns.{column_named}

itself : (name : List ℕ) → bytes_eq name name ≡ true
itself name = (bytes_eq-Decides name name).1 refl

-- a name is one of the names
among : (names : List (List ℕ)) (c : ℕ) (name : List ℕ) → slice_get names c ≡ Some name → list_any (λ other. bytes_eq other name) names ≡ true
among [] c name is = absurd cc
among (first ∷ names) zero name is =
    let same : first ≡ name = cc in
    rw (same, itself name) refl
among (first ∷ names) (suc c) name is = by (bytes_eq first name) (among names c name is)
  where
    by : (b : Bool) → list_any (λ other. bytes_eq other name) names ≡ true → (b || list_any (λ other. bytes_eq other name) names) ≡ true
    by true later = refl
    by false later = later

short : (names : List (List ℕ)) (c : ℕ) (name : List ℕ) → slice_get names c ≡ Some name → c < length names
short [] c name is = absurd cc
short (first ∷ names) zero name is = omega arith
short (first ∷ names) (suc c) name is = omega (arith, short names c name is)

opposite : (b : Bool) → not b ≡ true → b ≡ false
opposite true e = absurd cc
opposite false e = refl

-- the first name is another one
other_name : (first name : List ℕ) (names : List (List ℕ)) (c : ℕ) → list_any (λ other. bytes_eq other first) names ≡ false → slice_get names c ≡ Some name → bytes_eq first name ≡ false
other_name first name names c apart is = by (bytes_eq first name) refl
  where
    by : (b : Bool) → bytes_eq first name ≡ b → b ≡ false
    by false e = refl
    by true e =
        let same : first ≡ name = (bytes_eq-Decides first name).0 e in
        let there : list_any (λ other. bytes_eq other first) names ≡ true = ap (λ (n : List ℕ). list_any (λ other. bytes_eq other n) names) same ∙ among names c name is in
        absurd (false≢true (sym apart ∙ there))

place : (names : List (List ℕ)) (c : ℕ) (name : List ℕ) → are_different names ≡ true → slice_get names c ≡ Some name → position_or_len (λ other. bytes_eq other name) names ≡ c
place [] c name different is = absurd cc
place (first ∷ names) zero name different is =
    let same : first ≡ name = cc in
    rw (same, itself name) refl
place (first ∷ names) (suc c) name different is =
    let parts = and_parts (not (list_any (λ other. bytes_eq other first) names)) (are_different names) different in
    rw (other_name first name names c (opposite (list_any (λ other. bytes_eq other first) names) parts.0) is) (omega (arith, place names c name parts.1 is))

pub column_again : (names : List (List ℕ)) (c : ℕ) (name : List ℕ) → are_different names ≡ true → slice_get names c ≡ Some name → column_named names name ≡ Some c
column_again names c name different is =
    let at = place names c name different is in
    rw (at, lt-ltb c (length names) (short names c name is)) refl

-- ---- the names of columns without names

names_further : (column count : ℕ) → names_from column (suc count) ≡ names_from column count ++ (codes "c" ++ decimal (column + count)) ∷ []
names_further column zero =
    let same : column ≡ column + 0 = omega arith in
    ap (λ k. (codes "c" ++ decimal k) ∷ []) same
names_further column (suc count) =
    let same : suc column + count ≡ column + suc count = omega arith in
    ap (λ (names : List (List ℕ)). (codes "c" ++ decimal column) ∷ names) (names_further (suc column) count ∙ ap (λ k. names_from (suc column) count ++ (codes "c" ++ decimal k) ∷ []) same)

pub names_more : (count : ℕ) (names : List (List ℕ)) → names ≡ names_from 0 count → names ++ (codes "c" ++ decimal count) ∷ [] ≡ names_from 0 (count + 1)
names_more count names so_far =
    let same : count ≡ 0 + count = omega arith in
    let further : suc count ≡ count + 1 = omega arith in
    ap (λ (all : List (List ℕ)). all ++ (codes "c" ++ decimal count) ∷ []) so_far ∙ (ap (λ k. names_from 0 count ++ (codes "c" ++ decimal k) ∷ []) same ∙ (sym (names_further 0 count) ∙ ap (names_from 0) further))

pub names_are_many : (column count : ℕ) → length (names_from column count) ≡ count
names_are_many column zero = refl
names_are_many column (suc count) = ap suc (names_are_many (suc column) count)
