-- Lines read from the first on, and the lines of a text.
use Rattle.std.proofs.Common.{◌≡◌, ℕ, zero, suc, ◌+◌, ◌-◌, ◌<◌, ◌≤◌, true, false, eqb, List, [], ◌∷◌, ◌++◌, length, take, drop, get_or, Option, Some, None, Bor, refl, sym, ap, ◌∙◌, subst, append_assoc, add-one, drop-cons, arith}
use Rattle.std.specs.Prelude.{slice_get}
use Rattle.std.proofs.lemmas.List.{drop_all}
use Rattle.std.proofs.lemmas.Bool.{cond-true, cond-false}
use Rattle.lst_replies.specs.ReportTexts.{ends_empty, without_empty_end}
use Rattle.lst_replies.specs.Reading.{texts, read_front, front_with}

-- what was read of the first lines, and what the others are read as, are what all are read as
pub record FrontOn {X : Type 0} (read : ℕ → List ℕ → Option X) (place : ℕ) (lines : List (Bor (List ℕ))) (front : List X) (i : ℕ) : Type 0 where
  pub whole : read_front read place (texts lines) ≡ front ++ read_front read (place + i) (texts (drop i lines))

module _ {X : Type 0} (read : ℕ → List ℕ → Option X) (place : ℕ) (lines : List (Bor (List ℕ))) where
  pub front_first : FrontOn read place lines [] 0
  front_first = record { whole = let e : place ≡ place + 0 = omega arith in ap (λ n. read_front read n (texts lines)) e }

  opened : (i : ℕ) (d : Bor (List ℕ)) → i < length lines → texts (drop i lines) ≡ (get_or lines i d).now ∷ texts (drop (i + 1) lines)
  opened i d below = ap (λ ws. texts ws) (drop-cons lines i d below) ∙ ap (λ n. (get_or lines i d).now ∷ texts (drop n lines)) (sym (add-one i))

  step : (front : List X) (i : ℕ) (d : Bor (List ℕ)) → i < length lines → FrontOn read place lines front i
      → read_front read place (texts lines) ≡ front ++ front_with (read (place + i) (get_or lines i d).now) (read_front read (place + (i + 1)) (texts (drop (i + 1) lines)))
  step front i d below on =
      let next : place + i + 1 ≡ place + (i + 1) = omega arith in
      on.whole ∙ ap (λ ws. front ++ read_front read (place + i) ws) (opened i d below)
      ∙ ap (λ n. front ++ front_with (read (place + i) (get_or lines i d).now) (read_front read n (texts (drop (i + 1) lines)))) next

  pub front_more : (front : List X) (i at : ℕ) (d : Bor (List ℕ)) (x : X) → i < length lines → at ≡ place + i → read at (get_or lines i d).now ≡ Some x → FrontOn read place lines front i → FrontOn read place lines (front ++ x ∷ []) (i + 1)
  front_more front i at d x below here is on = record {
    whole = step front i d below on
        ∙ ap (λ o. front ++ front_with o (read_front read (place + (i + 1)) (texts (drop (i + 1) lines)))) (ap (λ n. read n (get_or lines i d).now) (sym here) ∙ is)
        ∙ sym (append_assoc front (x ∷ []) (read_front read (place + (i + 1)) (texts (drop (i + 1) lines))));
  }

  ends : (front : List X) → front ++ [] ≡ front
  ends [] = refl
  ends (x ∷ xs) = ap (λ rest. x ∷ rest) (ends xs)

  pub front_none : (front : List X) (i at : ℕ) (d : Bor (List ℕ)) → i < length lines → at ≡ place + i → read at (get_or lines i d).now ≡ None → FrontOn read place lines front i → read_front read place (texts lines) ≡ front
  front_none front i at d below here is on =
      step front i d below on
      ∙ ap (λ o. front ++ front_with o (read_front read (place + (i + 1)) (texts (drop (i + 1) lines)))) (ap (λ n. read n (get_or lines i d).now) (sym here) ∙ is)
      ∙ ends front

  pub front_all : (front : List X) (i : ℕ) → length lines ≤ i → FrontOn read place lines front i → read_front read place (texts lines) ≡ front
  front_all front i past on = on.whole ∙ ap (λ ws. front ++ read_front read (place + i) (texts ws)) (drop_all i lines past) ∙ ends front

-- ---- the lines of a text

pub ends_empty-last : (slices : List (Bor (List ℕ))) (last : Bor (List ℕ)) → slice_get slices (length slices - 1) ≡ Some last → ends_empty (texts slices) ≡ eqb (length last.now) 0
ends_empty-last [] last e = absurd cc
ends_empty-last (x ∷ []) last e = let same : x ≡ last = cc in ap (λ (s : Bor (List ℕ)). eqb (length s.now) 0) same
ends_empty-last (x ∷ y ∷ slices) last e =
    let less : length (x ∷ y ∷ slices) - 1 ≡ suc (length (y ∷ slices) - 1) = omega arith in
    ends_empty-last (y ∷ slices) last (ap (slice_get (x ∷ y ∷ slices)) (sym less) ∙ e)

pub end_stays : (parts : List (List ℕ)) → ends_empty parts ≡ false → without_empty_end parts ≡ parts
end_stays [] e = refl
end_stays (part ∷ []) e = cond-false _ _ _ e
end_stays (part ∷ next ∷ parts) e = ap (λ rest. part ∷ rest) (end_stays (next ∷ parts) e)

pub end_goes : (parts : List (List ℕ)) → ends_empty parts ≡ true → without_empty_end parts ≡ take (length parts - 1) parts
end_goes [] e = absurd cc
end_goes (part ∷ []) e = cond-true _ _ _ e
end_goes (part ∷ next ∷ parts) e =
    let less : length (part ∷ next ∷ parts) - 1 ≡ suc (length (next ∷ parts) - 1) = omega arith in
    ap (λ rest. part ∷ rest) (end_goes (next ∷ parts) e) ∙ ap (λ n. take n (part ∷ next ∷ parts)) (sym less)

pub take-texts : (n : ℕ) (slices : List (Bor (List ℕ))) → texts (take n slices) ≡ take n (texts slices)
take-texts n slices = by_list slices n
  where
    by_list : (xs : List (Bor (List ℕ))) (m : ℕ) → texts (take m xs) ≡ take m (texts xs)
    by_list [] m = by_zero m
      where
        by_zero : (m : ℕ) → texts (take m []) ≡ take m []
        by_zero zero = refl
        by_zero (suc m) = refl
    by_list (x ∷ xs) zero = refl
    by_list (x ∷ xs) (suc m) = ap (λ rest. x.now ∷ rest) (by_list xs m)

pub drop-texts : (n : ℕ) (slices : List (Bor (List ℕ))) → texts (drop n slices) ≡ drop n (texts slices)
drop-texts zero slices = refl
drop-texts (suc n) [] = refl
drop-texts (suc n) (x ∷ xs) = drop-texts n xs

pub length-texts : (slices : List (Bor (List ℕ))) → length (texts slices) ≡ length slices
length-texts [] = refl
length-texts (x ∷ xs) = ap suc (length-texts xs)

pub length-read_front : {X : Type 0} (read : ℕ → List ℕ → Option X) (place : ℕ) (lines : List (List ℕ)) → length (read_front read place lines) ≤ length lines
length-read_front read place [] = omega arith
length-read_front {X = X} read place (line ∷ lines) = by_reading (read place line) (length-read_front read (place + 1) lines)
  where
    by_reading : (o : Option X) → length (read_front read (place + 1) lines) ≤ length lines → length (front_with o (read_front read (place + 1) lines)) ≤ suc (length lines)
    by_reading None few = omega arith
    by_reading (Some x) few = omega arith

-- the lines of a text, by whether its last part is empty
pub lines-stay : (parts : List (List ℕ)) (slices : List (Bor (List ℕ))) → texts slices ≡ parts → ends_empty (texts slices) ≡ false → texts slices ≡ without_empty_end parts
lines-stay parts slices e none = subst (λ (ps : List (List ℕ)). texts slices ≡ without_empty_end ps) e (sym (end_stays (texts slices) none))

pub lines-go : (parts : List (List ℕ)) (slices : List (Bor (List ℕ))) → texts slices ≡ parts → ends_empty (texts slices) ≡ true → texts (take (length slices - 1) slices) ≡ without_empty_end parts
lines-go parts slices e some =
    take-texts (length slices - 1) slices
    ∙ ap (λ n. take (n - 1) (texts slices)) (sym (length-texts slices))
    ∙ sym (end_goes (texts slices) some) ∙ ap without_empty_end e
