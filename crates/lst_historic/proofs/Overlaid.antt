-- Cells overlaid one column after the other, in place.
use Rattle.std.proofs.Common.{◌≡◌, ℕ, zero, suc, ◌+◌, ◌<◌, ◌≤◌, List, [], ◌∷◌, length, map, set, refl, sym, ap, ◌∙◌, subst, add-one, arith}
use Rattle.std.proofs.lemmas.List.{length-set}
use Rattle.std.specs.Prelude.{Option, Some, None, min, slice_get, unwrap_or, option_map}
use Rattle.lst_model.specs.Cells.{Cell, overlaid}

-- so many columns in front are those of the patch, and the others as they were
abbrev pub AreOverlaid : ℕ → List Cell → List (Option Cell) → List Cell → Type 0
AreOverlaid zero olds patch news = news ≡ olds
AreOverlaid (suc n) [] patch news = news ≡ []
AreOverlaid (suc n) (old ∷ olds) [] news = news ≡ old ∷ olds
AreOverlaid (suc n) (old ∷ olds) (change ∷ patch) [] = ⊥
AreOverlaid (suc n) (old ∷ olds) (change ∷ patch) (new ∷ news) = (new ≡ unwrap_or change old) × AreOverlaid n olds patch news

pub overlaid_first : (olds : List Cell) (patch : List (Option Cell)) → AreOverlaid 0 olds patch olds
overlaid_first olds patch = refl

same : (n : ℕ) (olds : List Cell) (patch : List (Option Cell)) (news : List Cell) → slice_get patch n ≡ Some None → AreOverlaid n olds patch news → AreOverlaid (suc n) olds patch news
same zero [] patch news here so_far = so_far
same zero (old ∷ olds) [] news here so_far = so_far
same zero (old ∷ olds) (change ∷ patch) news here so_far =
    let none : change ≡ None = cc in
    subst (λ (cells : List Cell). AreOverlaid 1 (old ∷ olds) (change ∷ patch) cells) (sym so_far) (ap (λ (c : Option Cell). unwrap_or c old) (sym none), refl)
same (suc n) [] patch news here so_far = so_far
same (suc n) (old ∷ olds) [] news here so_far = so_far
same (suc n) (old ∷ olds) (change ∷ patch) [] here so_far = absurd so_far
same (suc n) (old ∷ olds) (change ∷ patch) (new ∷ news) here so_far = (so_far.0, same n olds patch news here so_far.1)

other : (n : ℕ) (olds : List Cell) (patch : List (Option Cell)) (news : List Cell) (cell : Cell) → slice_get patch n ≡ Some (Some cell) → n < length olds → AreOverlaid n olds patch news → AreOverlaid (suc n) olds patch (set news n cell)
other zero [] patch news cell here low so_far = absurd (omega (arith, low))
other zero (old ∷ olds) [] news cell here low so_far = absurd (cc)
other zero (old ∷ olds) (change ∷ patch) news cell here low so_far =
    let some : change ≡ Some cell = cc in
    subst (λ (cells : List Cell). AreOverlaid 1 (old ∷ olds) (change ∷ patch) (set cells 0 cell)) (sym so_far) (ap (λ (c : Option Cell). unwrap_or c old) (sym some), refl)
other (suc n) [] patch news cell here low so_far = absurd (omega (arith, low))
other (suc n) (old ∷ olds) [] news cell here low so_far = absurd (cc)
other (suc n) (old ∷ olds) (change ∷ patch) [] cell here low so_far = absurd so_far
other (suc n) (old ∷ olds) (change ∷ patch) (new ∷ news) cell here low so_far = (so_far.0, other n olds patch news cell here (omega (arith, low)) so_far.1)

pub record IsMore (n : ℕ) (olds : List Cell) (patch : List (Option Cell)) (news : List Cell) : Type 0 where
  pub size : length news ≡ length olds
  pub so_far : AreOverlaid n olds patch news

pub overlaid_more : (n : ℕ) (olds : List Cell) (patch : List (Option Cell)) (news news-2 : List Cell) (change : Option Cell) → slice_get patch n ≡ Some change → n < length olds
    → (change ≡ None → news-2 ≡ news) → ((cell : Cell) → change ≡ Some cell → news-2 ≡ set news n cell) → length news ≡ length olds → AreOverlaid n olds patch news → IsMore (n + 1) olds patch news-2
overlaid_more n olds patch news news-2 None here low none some size so_far =
    let is = none refl in
    record {
      size = ap (λ (cells : List Cell). length cells) is ∙ size;
      so_far = subst (λ k. AreOverlaid k olds patch news-2) (sym (add-one n)) (subst (λ (cells : List Cell). AreOverlaid (suc n) olds patch cells) (sym is) (same n olds patch news here so_far));
    }
overlaid_more n olds patch news news-2 (Some cell) here low none some size so_far =
    let is = some cell refl in
    record {
      size = ap (λ (cells : List Cell). length cells) is ∙ length-set news n cell ∙ size;
      so_far = subst (λ k. AreOverlaid k olds patch news-2) (sym (add-one n)) (subst (λ (cells : List Cell). AreOverlaid (suc n) olds patch cells) (sym is) (other n olds patch news cell here low so_far));
    }

pub overlaid_end : (n : ℕ) (olds : List Cell) (patch : List (Option Cell)) (news : List Cell) → min (length olds) (length patch) ≤ n → AreOverlaid n olds patch news → news ≡ overlaid olds patch
overlaid_end zero [] patch news all so_far = so_far
overlaid_end zero (old ∷ olds) [] news all so_far = so_far
overlaid_end zero (old ∷ olds) (change ∷ patch) news all so_far = absurd (omega (arith, all))
overlaid_end (suc n) [] patch news all so_far = so_far
overlaid_end (suc n) (old ∷ olds) [] news all so_far = so_far
overlaid_end (suc n) (old ∷ olds) (change ∷ patch) [] all so_far = absurd so_far
overlaid_end (suc n) (old ∷ olds) (change ∷ patch) (new ∷ news) all so_far =
    ap (λ (c : Cell). c ∷ news) so_far.0 ∙ ap (λ (cells : List Cell). unwrap_or change old ∷ cells) (overlaid_end n olds patch news (omega (arith, all)) so_far.1)

-- ---- all of them copied

some_at : (news : List Cell) (n : ℕ) (cell : Cell) → slice_get news n ≡ Some cell → slice_get (map Some news) n ≡ Some (Some cell)
some_at [] n cell here = absurd (cc)
some_at (new ∷ news) zero cell here = ap (λ (c : Option Cell). option_map Some c) here
some_at (new ∷ news) (suc n) cell here = some_at news n cell here

pub copied_more : (n : ℕ) (olds others news news-2 : List Cell) (cell : Cell) → slice_get others n ≡ Some cell → n < length olds → news-2 ≡ set news n cell → length news ≡ length olds → AreOverlaid n olds (map Some others) news
    → IsMore (n + 1) olds (map Some others) news-2
copied_more n olds others news news-2 cell here low is size so_far =
    overlaid_more n olds (map Some others) news news-2 (Some cell) (some_at others n cell here) low (λ none. absurd (cc)) (λ other some. let same : cell ≡ other = cc in is ∙ ap (λ (c : Cell). set news n c) same) size so_far

all_set : (olds others : List Cell) → length olds ≡ length others → overlaid olds (map Some others) ≡ others
all_set [] [] size = refl
all_set [] (other ∷ others) size = absurd (omega (arith, size))
all_set (old ∷ olds) [] size = absurd (omega (arith, size))
all_set (old ∷ olds) (other ∷ others) size = ap (λ (cells : List Cell). other ∷ cells) (all_set olds others (omega (arith, size)))

mapped : (others : List Cell) → length (map Some others) ≡ length others
mapped [] = refl
mapped (other ∷ others) = ap suc (mapped others)

pub copied_end : (n : ℕ) (olds others news : List Cell) → length olds ≡ length others → length others ≤ n → AreOverlaid n olds (map Some others) news → news ≡ others
copied_end n olds others news size all so_far =
    let few = mapped others in
    overlaid_end n olds (map Some others) news (omega (arith, all, size, few)) so_far ∙ all_set olds others size
