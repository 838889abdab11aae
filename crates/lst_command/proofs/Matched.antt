-- A list of one word.
use Rattle.std.proofs.Common.{◌≡◌, ℕ, List, [], ◌∷◌, map, length, slice_index_or, sym, ap, ◌∙◌, arith}

-- a list of one element is what that element is seen as
pub map-one : {X : Type 0} (view : X → List ℕ) (xs : List X) (x : X) (text : List ℕ) → length xs ≡ 1 → x ≡ slice_index_or xs 0 x
    → (view x ≡ text → map view xs ≡ text ∷ []) × (map view xs ≡ text ∷ [] → view x ≡ text)
map-one view [] x text one first = absurd (omega arith)
map-one view (y ∷ []) x text one first = (λ same. ap (λ (t : List ℕ). t ∷ []) (sym (ap view first) ∙ same), λ same. ap view first ∙ cc)
map-one view (y ∷ z ∷ xs) x text one first = absurd (omega arith)
