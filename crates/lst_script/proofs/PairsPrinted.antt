-- Pairs printed one after the other.
use Rattle.std.proofs.Common.{◌≡◌, ℕ, zero, suc, ◌+◌, ◌<◌, ◌≤◌, min, List, [], ◌∷◌, ◌++◌, length, drop, get_or, Option, Some, None, decimal, refl, sym, ap, ◌∙◌, append_assoc, add-one, drop-cons, arith}
use Rattle.std.specs.Prelude.{slice_get}
use native.Mathlib.Decide.{dec_lt}
use Rattle.std.proofs.lemmas.List.{append-nil, drop_all}
use Rattle.lst_model.specs.Cells.{Cell}
use Rattle.lst_script.specs.Canonical.{behind_spaces, cell_pairs, change_pairs, cell_word}

-- the item at a place, and those behind it
from_place : {X : Type 0} (xs : List X) (i : ℕ) (x : X) → slice_get xs i ≡ Some x → drop i xs ≡ x ∷ drop (suc i) xs
from_place [] i x is = absurd cc
from_place (y ∷ xs) zero x is = let same : y ≡ x = cc in ap (λ z. z ∷ xs) same
from_place (y ∷ xs) (suc i) x is = from_place xs i x is

one_word : (word : List ℕ) (rest : List (List ℕ)) → behind_spaces (word ∷ rest) ≡ behind_spaces (word ∷ []) ++ behind_spaces rest
one_word word rest = ap (λ text. text ++ behind_spaces rest) (sym (append-nil (32 ∷ word)))

cells_head : (name : List ℕ) (names : List (List ℕ)) (x : Cell) (xs : List (Cell)) → behind_spaces (cell_pairs (name ∷ names) (x ∷ xs)) ≡ behind_spaces (cell_pairs (name ∷ []) (x ∷ [])) ++ behind_spaces (cell_pairs names xs)
cells_head name names None xs = refl
cells_head name names (Some y) xs = one_word (name ++ 61 ∷ decimal y) (cell_pairs names xs)

pub cells_step : (names : List (List ℕ)) (xs : List (Cell)) (i : ℕ) (name : List ℕ) (x : Cell) (before after whole : List ℕ) → i < length names → name ≡ get_or names i name → slice_get xs i ≡ Some x
    → after ≡ before ++ behind_spaces (cell_pairs (name ∷ []) (x ∷ [])) → before ++ behind_spaces (cell_pairs (drop i names) (drop i xs)) ≡ whole → after ++ behind_spaces (cell_pairs (drop (i + 1) names) (drop (i + 1) xs)) ≡ whole
cells_step names xs i name x before after whole lt is at one so_far =
    let rest_names : drop i names ≡ name ∷ drop (i + 1) names = drop-cons names i name lt ∙ (λ j. sym is j ∷ drop (sym (add-one i) j) names) in
    let rest : drop i xs ≡ x ∷ drop (i + 1) xs = from_place xs i x at ∙ (λ j. x ∷ drop (sym (add-one i) j) xs) in
    ap (λ text. text ++ behind_spaces (cell_pairs (drop (i + 1) names) (drop (i + 1) xs))) one
    ∙ append_assoc before (behind_spaces (cell_pairs (name ∷ []) (x ∷ []))) (behind_spaces (cell_pairs (drop (i + 1) names) (drop (i + 1) xs)))
    ∙ ap (λ text. before ++ text) (sym (cells_head name (drop (i + 1) names) x (drop (i + 1) xs)))
    ∙ (λ j. before ++ behind_spaces (cell_pairs (sym rest_names j) (sym rest j)))
    ∙ so_far

cells_none : (names : List (List ℕ)) → cell_pairs names [] ≡ []
cells_none [] = refl
cells_none (name ∷ names) = refl

pub cells_end : (names : List (List ℕ)) (xs : List (Cell)) (i : ℕ) (front whole : List ℕ) → min (length names) (length xs) ≤ i → front ++ behind_spaces (cell_pairs (drop i names) (drop i xs)) ≡ whole → front ≡ whole
cells_end names xs i front whole ended so_far = sym (append-nil front) ∙ ap (λ pairs. front ++ behind_spaces pairs) (sym none) ∙ so_far
  where
    none : cell_pairs (drop i names) (drop i xs) ≡ []
    none = elim (dec_lt i (length names)) [
      | yes low ↦ ap (λ (rest : List (Cell)). cell_pairs (drop i names) rest) (drop_all i xs (omega arith)) ∙ cells_none (drop i names)
      | no high ↦ ap (λ (rest : List (List ℕ)). cell_pairs rest (drop i xs)) (drop_all i names (omega arith))
    ]

changes_head : (name : List ℕ) (names : List (List ℕ)) (x : Option Cell) (xs : List (Option Cell)) → behind_spaces (change_pairs (name ∷ names) (x ∷ xs)) ≡ behind_spaces (change_pairs (name ∷ []) (x ∷ [])) ++ behind_spaces (change_pairs names xs)
changes_head name names None xs = refl
changes_head name names (Some y) xs = one_word (name ++ 61 ∷ cell_word y) (change_pairs names xs)

pub changes_step : (names : List (List ℕ)) (xs : List (Option Cell)) (i : ℕ) (name : List ℕ) (x : Option Cell) (before after whole : List ℕ) → i < length names → name ≡ get_or names i name → slice_get xs i ≡ Some x
    → after ≡ before ++ behind_spaces (change_pairs (name ∷ []) (x ∷ [])) → before ++ behind_spaces (change_pairs (drop i names) (drop i xs)) ≡ whole → after ++ behind_spaces (change_pairs (drop (i + 1) names) (drop (i + 1) xs)) ≡ whole
changes_step names xs i name x before after whole lt is at one so_far =
    let rest_names : drop i names ≡ name ∷ drop (i + 1) names = drop-cons names i name lt ∙ (λ j. sym is j ∷ drop (sym (add-one i) j) names) in
    let rest : drop i xs ≡ x ∷ drop (i + 1) xs = from_place xs i x at ∙ (λ j. x ∷ drop (sym (add-one i) j) xs) in
    ap (λ text. text ++ behind_spaces (change_pairs (drop (i + 1) names) (drop (i + 1) xs))) one
    ∙ append_assoc before (behind_spaces (change_pairs (name ∷ []) (x ∷ []))) (behind_spaces (change_pairs (drop (i + 1) names) (drop (i + 1) xs)))
    ∙ ap (λ text. before ++ text) (sym (changes_head name (drop (i + 1) names) x (drop (i + 1) xs)))
    ∙ (λ j. before ++ behind_spaces (change_pairs (sym rest_names j) (sym rest j)))
    ∙ so_far

changes_none : (names : List (List ℕ)) → change_pairs names [] ≡ []
changes_none [] = refl
changes_none (name ∷ names) = refl

pub changes_end : (names : List (List ℕ)) (xs : List (Option Cell)) (i : ℕ) (front whole : List ℕ) → min (length names) (length xs) ≤ i → front ++ behind_spaces (change_pairs (drop i names) (drop i xs)) ≡ whole → front ≡ whole
changes_end names xs i front whole ended so_far = sym (append-nil front) ∙ ap (λ pairs. front ++ behind_spaces pairs) (sym none) ∙ so_far
  where
    none : change_pairs (drop i names) (drop i xs) ≡ []
    none = elim (dec_lt i (length names)) [
      | yes low ↦ ap (λ (rest : List (Option Cell)). change_pairs (drop i names) rest) (drop_all i xs (omega arith)) ∙ changes_none (drop i names)
      | no high ↦ ap (λ (rest : List (List ℕ)). change_pairs rest (drop i xs)) (drop_all i names (omega arith))
    ]
