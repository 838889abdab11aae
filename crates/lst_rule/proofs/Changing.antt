-- Lists that a loop changes from the front on.
use Rattle.std.proofs.Common.{◌≡◌, ℕ, zero, suc, ◌+◌, ◌<◌, ◌≤◌, List, [], ◌∷◌, Bool, false, cond, ◌⊎◌, ⊎_elim, inl, inr, map, length, get_or, set, refl, subst, ap, ◌∙◌, arith}
use Rattle.lst_rule.specs.Joins.{united_lists}

module _ {A : Type 0} (f : A → A) where
  -- the first n items changed
  abbrev pub mapped : ℕ → List A → List A
  mapped zero xs = xs
  mapped (suc n) [] = []
  mapped (suc n) (x ∷ xs) = f x ∷ mapped n xs

  pub mapped_at : (n : ℕ) (xs : List A) (d : A) → get_or (mapped n xs) n d ≡ get_or xs n d
  mapped_at zero xs d = refl
  mapped_at (suc n) [] d = refl
  mapped_at (suc n) (x ∷ xs) d = mapped_at n xs d

  pub mapped_next : (n : ℕ) (xs : List A) (d y : A) → n < length xs → y ≡ f (get_or xs n d) → set (mapped n xs) n y ≡ mapped (suc n) xs
  mapped_next n [] d y low is = absurd (omega arith)
  mapped_next zero (x ∷ xs) d y low is = ap (λ (z : A). z ∷ xs) is
  mapped_next (suc n) (x ∷ xs) d y low is = ap (λ (l : List A). f x ∷ l) (mapped_next n xs d y (omega arith) is)

  pub length-mapped : (n : ℕ) (xs : List A) → length (mapped n xs) ≡ length xs
  length-mapped zero xs = refl
  length-mapped (suc n) [] = refl
  length-mapped (suc n) (x ∷ xs) = ap suc (length-mapped n xs)

  pub mapped_step : (n : ℕ) (xs ys : List A) (d y : A) → ys ≡ mapped n xs → n < length ys → y ≡ f (get_or ys n d) → set ys n y ≡ mapped (n + 1) xs
  mapped_step n xs ys d y same low is = let next : suc n ≡ n + 1 = omega arith in subst (λ (k : ℕ). set ys n y ≡ mapped k xs) next (ap (λ (l : List A). set l n y) same ∙ mapped_next n xs d y (let a = ap length same ∙ length-mapped n xs in omega arith) (is ∙ ap f (ap (λ (l : List A). get_or l n d) same ∙ mapped_at n xs d)))

  pub mapped_all : (n : ℕ) (xs : List A) → length xs ≤ n → mapped n xs ≡ map f xs
  mapped_all zero [] low = refl
  mapped_all zero (x ∷ xs) low = absurd (omega arith)
  mapped_all (suc n) [] low = refl
  mapped_all (suc n) (x ∷ xs) low = ap (λ (l : List A). f x ∷ l) (mapped_all n xs (omega arith))

module _ {A : Type 0} where
  -- the first n items united
  abbrev pub united_first : ℕ → List Bool → List A → List A → List A
  united_first zero bs xs ys = xs
  united_first (suc n) [] xs ys = xs
  united_first (suc n) (b ∷ bs) [] ys = []
  united_first (suc n) (b ∷ bs) (x ∷ xs) [] = x ∷ xs
  united_first (suc n) (b ∷ bs) (x ∷ xs) (y ∷ ys) = cond b y x ∷ united_first n bs xs ys

  pub united_at : (n : ℕ) (bs : List Bool) (xs ys : List A) (d : A) → n < length bs → n < length ys → get_or (united_first n bs xs ys) n d ≡ get_or xs n d
  united_at zero bs xs ys d low low' = refl
  united_at (suc n) [] xs ys d low low' = refl
  united_at (suc n) (b ∷ bs) [] ys d low low' = refl
  united_at (suc n) (b ∷ bs) (x ∷ xs) [] d low low' = refl
  united_at (suc n) (b ∷ bs) (x ∷ xs) (y ∷ ys) d low low' = united_at n bs xs ys d (omega arith) (omega arith)

  pub united_next : (n : ℕ) (bs : List Bool) (xs ys : List A) (d z : A) → n < length bs → n < length xs → n < length ys → z ≡ cond (get_or bs n false) (get_or ys n d) (get_or xs n d) → set (united_first n bs xs ys) n z ≡ united_first (suc n) bs xs ys
  united_next n [] xs ys d z low l l' is = absurd (omega arith)
  united_next n (b ∷ bs) [] ys d z low l l' is = absurd (omega arith)
  united_next n (b ∷ bs) (x ∷ xs) [] d z low l l' is = absurd (omega arith)
  united_next zero (b ∷ bs) (x ∷ xs) (y ∷ ys) d z low l l' is = ap (λ (u : A). u ∷ xs) is
  united_next (suc n) (b ∷ bs) (x ∷ xs) (y ∷ ys) d z low l l' is = ap (λ (u : List A). cond b y x ∷ u) (united_next n bs xs ys d z (omega arith) (omega arith) (omega arith) is)

  pub length-united_first : (n : ℕ) (bs : List Bool) (xs ys : List A) → length (united_first n bs xs ys) ≡ length xs
  length-united_first zero bs xs ys = refl
  length-united_first (suc n) [] xs ys = refl
  length-united_first (suc n) (b ∷ bs) [] ys = refl
  length-united_first (suc n) (b ∷ bs) (x ∷ xs) [] = refl
  length-united_first (suc n) (b ∷ bs) (x ∷ xs) (y ∷ ys) = ap suc (length-united_first n bs xs ys)

  pub united_step : (n : ℕ) (bs : List Bool) (xs ys zs : List A) (d z : A) → zs ≡ united_first n bs xs ys → n < length zs → n < length bs → n < length ys → z ≡ cond (get_or bs n false) (get_or ys n d) (get_or zs n d) → set zs n z ≡ united_first (n + 1) bs xs ys
  united_step n bs xs ys zs d z same low l l' is = let next : suc n ≡ n + 1 = omega arith in subst (λ (k : ℕ). set zs n z ≡ united_first k bs xs ys) next (ap (λ (u : List A). set u n z) same ∙ united_next n bs xs ys d z l (let a = ap length same ∙ length-united_first n bs xs ys in omega arith) l'
      (is ∙ ap (λ (u : A). cond (get_or bs n false) (get_or ys n d) u) (ap (λ (u : List A). get_or u n d) same ∙ united_at n bs xs ys d l l')))

  pub united_end : (n : ℕ) (bs : List Bool) (xs ys : List A) → (length xs ≤ n) ⊎ ((length bs ≤ n) ⊎ (length ys ≤ n)) → united_first n bs xs ys ≡ united_lists bs xs ys
  united_end zero [] xs ys e = refl
  united_end zero (b ∷ bs) [] ys e = refl
  united_end zero (b ∷ bs) (x ∷ xs) [] e = refl
  united_end zero (b ∷ bs) (x ∷ xs) (y ∷ ys) e = absurd (⊎_elim (λ (p : length (x ∷ xs) ≤ zero). omega arith) (λ (q : (length (b ∷ bs) ≤ zero) ⊎ (length (y ∷ ys) ≤ zero)). ⊎_elim (λ (p : length (b ∷ bs) ≤ zero). omega arith) (λ (p : length (y ∷ ys) ≤ zero). omega arith) q) e)
  united_end (suc n) [] xs ys e = refl
  united_end (suc n) (b ∷ bs) [] ys e = refl
  united_end (suc n) (b ∷ bs) (x ∷ xs) [] e = refl
  united_end (suc n) (b ∷ bs) (x ∷ xs) (y ∷ ys) e = ap (λ (l : List A). cond b y x ∷ l) (united_end n bs xs ys
      (⊎_elim (λ (p : length (x ∷ xs) ≤ suc n). inl (omega arith)) (λ (q : (length (b ∷ bs) ≤ suc n) ⊎ (length (y ∷ ys) ≤ suc n)). inr (⊎_elim (λ (p : length (b ∷ bs) ≤ suc n). inl (omega arith)) (λ (p : length (y ∷ ys) ≤ suc n). inr (omega arith)) q)) e))
