-- Records sorted by their numbers, without repeats.
use Rattle.std.proofs.Common.{◌≡◌, ℕ, ◌+◌, List, [], ◌∷◌, Bool, true, false, cond, eqb, map, length, Contains, refl, sym, ◌∙◌, arith, eqb-true}
use Rattle.std.specs.List.{dedup, dedup_from}
use Rattle.std.specs.List.Sorted.{IsSorted, IsSortedByKey, IsStrictlyIncreasing}
use Rattle.std.specs.Ordering.{nat_cmp, is_lt}
use Rattle.std.specs.Cmp.{IsEquivalence, nat_eq_equiv}
use Rattle.std.proofs.lemmas.List.{length-map, get_or-map}
use Rattle.std.proofs.lemmas.List.Kept.{Contains-dedup}
use Rattle.std.proofs.lemmas.Map.Keys.{IsStrictlyIncreasing-dedup}
use Rattle.lst_rule.specs.declared.records.RecordId.{RecordId}

abbrev pub number_of : RecordId → ℕ
number_of rec = rec.number

-- records that stand by number
numbers_sorted : (xs : List RecordId) → IsSortedByKey number_of nat_cmp xs → IsSorted nat_cmp (map number_of xs)
numbers_sorted xs up k d low high = let wide : length (map number_of xs) ≡ length xs = length-map xs number_of in let e : RecordId = record { number = d } in
    (λ i. is_lt (nat_cmp (get_or-map number_of xs (k + 1) e d (omega arith) i) (get_or-map number_of xs k e d (omega arith) i))) ∙ up k e low (omega arith)

module _ (E : RecordId → RecordId → Bool) (same : (x y : RecordId) → E x y ≡ eqb x.number y.number) where
  numbers_from : (k : RecordId) (xs : List RecordId) → map number_of (dedup_from E k xs) ≡ dedup_from eqb k.number (map number_of xs)
  numbers_from k [] = refl
  numbers_from k (x ∷ xs) = choose (E x k) ∙ (λ i. cond (same x k i) (numbers_from k xs i) (k.number ∷ numbers_from x xs i))
    where
      choose : (b : Bool) → map number_of (cond b (dedup_from E k xs) (k ∷ dedup_from E x xs)) ≡ cond b (map number_of (dedup_from E k xs)) (k.number ∷ map number_of (dedup_from E x xs))
      choose true = refl
      choose false = refl

  numbers_dedup : (xs : List RecordId) → map number_of (dedup E xs) ≡ dedup eqb (map number_of xs)
  numbers_dedup [] = refl
  numbers_dedup (x ∷ xs) = numbers_from x xs

  pub dedup_rises : (xs : List RecordId) → IsSortedByKey number_of nat_cmp xs → IsStrictlyIncreasing (map number_of (dedup E xs))
  dedup_rises xs up = let is = numbers_dedup xs in rw is (IsStrictlyIncreasing-dedup (map number_of xs) (numbers_sorted xs up))

  equals : IsEquivalence E
  equals = record {
    refl = λ x. same x x ∙ nat_eq_equiv.refl x.number;
    symm = λ x y. same x y ∙ (nat_eq_equiv.symm x.number y.number ∙ sym (same y x));
    congr = λ x y z h. same x z ∙ (nat_eq_equiv.congr x.number y.number z.number (sym (same x y) ∙ h) ∙ sym (same y z));
  }

  pub dedup_keeps : (xs : List RecordId) (rec : RecordId) → Contains xs rec → Contains (dedup E xs) rec
  dedup_keeps xs rec h = Contains-dedup equals (λ x y e. let n : x.number ≡ y.number = eqb-true x.number y.number (sym (same x y) ∙ e) in λ i. record { number = n i }) xs rec h
