-- A part of a part of a list, and an item of it.
use Rattle.std.proofs.Common.{◌≡◌, ℕ, zero, suc, ◌+◌, ◌-◌, ◌<◌, ◌≤◌, List, [], ◌∷◌, ◌++◌, length, take, drop, Some, refl, sym, subst, ap, ◌∙◌, arith}
use Rattle.std.proofs.lemmas.List.{take-take, drop-drop, drop-take}
use Rattle.std.specs.Prelude.{slice_get}

take_few : {X : Type 0} (n : ℕ) (xs : List X) → length (take n xs) ≤ n
take_few zero xs = omega arith
take_few (suc n) [] = omega arith
take_few (suc n) (x ∷ xs) = let h = take_few n xs in omega arith

pub part_of_part : {X : Type 0} (xs ys : List X) (start end from to : ℕ) → take (end - start) (drop start xs) ≡ ys → from ≤ to → to ≤ length ys
    → take ((start + to) - (start + from)) (drop (start + from) xs) ≡ take (to - from) (drop from ys)
part_of_part xs ys start end from to is order within =
    let few : length ys ≤ end - start = subst (λ zs. length zs ≤ end - start) is (take_few (end - start) (drop start xs)) in
    let n : ℕ = end - start in
    ap (λ k. take k (drop (start + from) xs)) (let e : (start + to) - (start + from) ≡ to - from = omega arith in e)
    ∙ (ap (take (to - from)) (sym (drop-drop from start xs))
    ∙ (sym (take-take (to - from) ((end - start) - from) (drop from (drop start xs)) (omega arith))
    ∙ (ap (take (to - from)) (sym (drop-take from ((end - start) - from) (drop start xs)))
    ∙ (ap (λ k. take (to - from) (drop from (take k (drop start xs)))) (let e : from + ((end - start) - from) ≡ end - start = omega arith in e)
    ∙ ap (λ zs. take (to - from) (drop from zs)) is))))

get_take : {X : Type 0} (n : ℕ) (xs : List X) (i : ℕ) → i < n → slice_get (take n xs) i ≡ slice_get xs i
get_take zero xs i low = absurd (omega arith)
get_take (suc n) [] i low = refl
get_take (suc n) (x ∷ xs) zero low = refl
get_take (suc n) (x ∷ xs) (suc i) low = get_take n xs i (omega arith)

get_drop : {X : Type 0} (n : ℕ) (xs : List X) (i : ℕ) → slice_get (drop n xs) i ≡ slice_get xs (n + i)
get_drop zero xs i = ap (slice_get xs) (let e : i ≡ 0 + i = omega arith in e)
get_drop (suc n) [] i = refl
get_drop (suc n) (x ∷ xs) i = get_drop n xs i ∙ ap (slice_get (x ∷ xs)) (let e : suc (n + i) ≡ suc n + i = omega arith in e)

pub item_of_part : {X : Type 0} (xs ys : List X) (start end i : ℕ) (x : X) → take (end - start) (drop start xs) ≡ ys → i < length ys → slice_get xs (start + i) ≡ Some x → slice_get ys i ≡ Some x
item_of_part xs ys start end i x is low here =
    let few : length ys ≤ end - start = subst (λ zs. length zs ≤ end - start) is (take_few (end - start) (drop start xs)) in
    ap (λ zs. slice_get zs i) (sym is) ∙ (get_take (end - start) (drop start xs) i (omega arith) ∙ (get_drop start xs i ∙ here))

-- the items before a place, and one more
pub one_taken : {X : Type 0} (xs : List X) (i : ℕ) (x : X) → slice_get xs i ≡ Some x → take (i + 1) xs ≡ take i xs ++ x ∷ []
one_taken xs i x is = ap (λ k. take k xs) (let e : i + 1 ≡ suc i = omega arith in e) ∙ next xs i x is
  where
    next : {X : Type 0} (xs : List X) (i : ℕ) (x : X) → slice_get xs i ≡ Some x → take (suc i) xs ≡ take i xs ++ x ∷ []
    next [] i x is = absurd cc
    next (y ∷ xs) zero x is = let same : y ≡ x = cc in ap (λ z. z ∷ []) same
    next (y ∷ xs) (suc i) x is = ap (λ ys. y ∷ ys) (next xs i x is)
