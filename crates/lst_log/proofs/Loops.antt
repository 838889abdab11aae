-- Reading one thing after another, as a loop does.
use Rattle.std.proofs.Common.{◌≡◌, ℕ, suc, ◌-◌, ◌+◌, ◌≤◌, ◌<◌, List, [], ◌∷◌, ◌++◌, Option, Some, None, refl, sym, ap, ◌∙◌, append_assoc, append-nil, arith}
use Rattle.lst_log.specs.Reading.{◌>>=◌, many_at}

-- what was read before, and what is still read
abbrev pub with_front : {A : Type 0} → List A → Option (List A × List ℕ) → Option (List A × List ℕ)
with_front front read = read >>= λ x. Some (front ++ x.0, x.1)

module _ {A : Type 0} where
  regroup : (front : List A) (x : A) (read : Option (List A × List ℕ)) → with_front front (read >>= λ y. Some (x ∷ y.0, y.1)) ≡ with_front (front ++ x ∷ []) read
  regroup front x (Some y) = ap (λ (xs : List A). Some (xs, y.1)) (sym (append_assoc front (x ∷ []) y.0))
  regroup front x None = refl

  pub goes_on : (one : List ℕ → Option (A × List ℕ)) (front : List A) (count i : ℕ) (bytes : List ℕ) (x : A) (after : List ℕ) (total : Option (List A × List ℕ)) → i < count → one bytes ≡ Some (x, after)
      → with_front front (many_at one (count - i) bytes) ≡ total → with_front (front ++ x ∷ []) (many_at one (count - (i + 1)) after) ≡ total
  unfolding many_at
  goes_on one front count i bytes x after total lt h so_far =
      let k : count - i ≡ suc (count - (i + 1)) = omega arith in
      let step : with_front front (many_at one (count - i) bytes) ≡ with_front (front ++ x ∷ []) (many_at one (count - (i + 1)) after) = rw (k, h) (regroup front x (many_at one (count - (i + 1)) after)) in
      sym step ∙ so_far

  pub stops : (one : List ℕ → Option (A × List ℕ)) (front : List A) (count i : ℕ) (bytes : List ℕ) (total : Option (List A × List ℕ)) → i < count → one bytes ≡ None
      → with_front front (many_at one (count - i) bytes) ≡ total → total ≡ None
  unfolding many_at
  stops one front count i bytes total lt h so_far =
      let k : count - i ≡ suc (count - (i + 1)) = omega arith in
      let step : with_front front (many_at one (count - i) bytes) ≡ None = rw (k, h) refl in
      sym so_far ∙ step

  pub is_done : (one : List ℕ → Option (A × List ℕ)) (front : List A) (count i : ℕ) (bytes : List ℕ) (total : Option (List A × List ℕ)) → count ≤ i → with_front front (many_at one (count - i) bytes) ≡ total → total ≡ Some (front, bytes)
  unfolding many_at
  is_done one front count i bytes total le so_far =
      let k : count - i ≡ 0 = omega arith in
      let step : with_front front (many_at one (count - i) bytes) ≡ Some (front, bytes) = rw k (ap (λ (xs : List A). Some (xs, bytes)) (append-nil front)) in
      sym so_far ∙ step
