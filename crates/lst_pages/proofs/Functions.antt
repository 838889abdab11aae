-- Functions that change at one place, rows of words, and sums.
use Rattle.std.proofs.Common.{◌≡◌, ◌≢◌, ◌⊎◌, ℕ, zero, suc, ◌+◌, ◌<◌, ◌≤◌, List, [], Option, Some, None, refl, sym, subst, ap, ◌∙◌, arith, inl, inr, length, replicate, slice_index_or, slice_set, IfSome}
use Rattle.std.proofs.lemmas.List.{get_or-set_same, get_or-set_other, length-set}
use mathlib.Core.Logic.{dite}
use native.Mathlib.Decide.{ℕ_discrete}
use Rattle.lst_layout.specs.Functions.{put, put_in}
use Rattle.lst_layout.proofs.Functions.{put_here, put_else, put_in_row, put_in_else}
pub use Rattle.lst_layout.proofs.Functions.{get-listed, length-listed, listed-put}
use Rattle.lst_pages.proofs.Lists.{listed-same}
use Rattle.lst_pages.specs.Lists.{total, listed, rows_of, word_in, with_word_in}

-- ---- two places

pub same_place : (k m j i : ℕ) → ((j ≡ k) × (i ≡ m)) ⊎ (j ≡ k → i ≢ m)
same_place k m j i = dite (ℕ_discrete j k)
    (λ e. dite (ℕ_discrete i m) (λ f. inl (e, f)) (λ other. inr (λ _. other)))
    (λ other. inr (λ e. absurd (other e)))

pub put_in_here : (f : ℕ → ℕ → ℕ) (k m a : ℕ) → put_in f k m a k m ≡ a
put_in_here f k m a = ap (λ (g : ℕ → ℕ). g m) (put_in_row f k m a) ∙ put_here (f k) m a

-- what holds at the place, and elsewhere, holds everywhere
pub each_put_in : (P : ℕ → ℕ → ℕ → Type 0) (f : ℕ → ℕ → ℕ) (k m a : ℕ) → P k m a → ((j i : ℕ) → (j ≡ k → i ≢ m) → P j i (f j i)) → (j i : ℕ) → P j i (put_in f k m a j i)
each_put_in P f k m a here others j i = choose (same_place k m j i)
  where
    choose : ((j ≡ k) × (i ≡ m)) ⊎ (j ≡ k → i ≢ m) → P j i (put_in f k m a j i)
    choose (inl (e, g)) = subst (λ (x : ℕ). P x i (put_in f k m a x i)) (sym e) (subst (λ (y : ℕ). P k y (put_in f k m a k y)) (sym g) (subst (P k m) (sym (put_in_here f k m a)) here))
    choose (inr apart) = subst (P j i) (sym (put_in_else f k m a j i apart)) (others j i apart)

-- ---- lists

module _ {A : Type 0} where
  -- what holds of the item that is set, and of each other one, holds of each
  pub each_set : (P : ℕ → A → Type 0) (xs : List A) (k : ℕ) (a d : A) → k < length xs → P k a → ((j : ℕ) → j ≢ k → P j (slice_index_or xs j d)) → (j : ℕ) → P j (slice_index_or (slice_set xs k a) j d)
  each_set P xs k a d low here others j = dite (ℕ_discrete j k)
      (λ e. subst (λ (i : ℕ). P i (slice_index_or (slice_set xs k a) i d)) (sym e) (subst (P k) (sym (get_or-set_same xs k a d low)) here))
      (λ other. subst (P j) (sym (get_or-set_other xs k j a d other)) (others j other))

  pub get-replicate : (n j : ℕ) (d : A) → slice_index_or (replicate n d) j d ≡ d
  get-replicate zero j d = refl
  get-replicate (suc n) zero d = refl
  get-replicate (suc n) (suc j) d = get-replicate n j d

  pub if_map : (P Q : A → Type 0) (x : Option A) → ((a : A) → P a → Q a) → IfSome x P → IfSome x Q
  if_map P Q None f h = tt
  if_map P Q (Some a) f h = f a h

  pub if_none : (P : A → Type 0) (x : Option A) → x ≡ None → IfSome x P
  if_none P x e = subst (λ (y : Option A). IfSome y P) (sym e) tt

-- ---- rows of words

pub rows-length : (f : ℕ → ℕ → ℕ) (n m i : ℕ) → i < n → length (slice_index_or (rows_of f n m) i []) ≡ m
rows-length f n m i low = ap length (get-listed (λ j. listed (f j) 0 m) 0 n i [] low) ∙ length-listed (f (0 + i)) 0 m

pub word_in-rows : (f : ℕ → ℕ → ℕ) (n m i j : ℕ) → i < n → j < m → word_in (rows_of f n m) i j ≡ f i j
word_in-rows f n m i j low short = ap (λ (row : List ℕ). slice_index_or row j 0) (get-listed (λ j. listed (f j) 0 m) 0 n i [] low) ∙ get-listed (f (0 + i)) 0 m j 0 short
    ∙ (let e : 0 + i ≡ i = omega arith in let g : 0 + j ≡ j = omega arith in λ x. f (e x) (g x))

pub rows-put : (f : ℕ → ℕ → ℕ) (n m k i x : ℕ) → k < n → i < m → rows_of (put_in f k i x) n m ≡ with_word_in (rows_of f n m) k i x
rows-put f n m k i x low short = listed-same (put (λ j. listed (f j) 0 m) k (listed (put (f k) i x) 0 m)) (λ j. listed (put_in f k i x j) 0 m) 0 n (λ j _ _. row j)
    ∙ listed-put (λ j. listed (f j) 0 m) 0 n k k (listed (put (f k) i x) 0 m) (omega arith) low
    ∙ ap (slice_set (rows_of f n m) k) (listed-put (f k) 0 m i i x (omega arith) short
    ∙ ap (λ (r : List ℕ). slice_set r i x) (sym (get-listed (λ j. listed (f j) 0 m) 0 n k [] low ∙ (let e : 0 + k ≡ k = omega arith in ap (λ (j : ℕ). listed (f j) 0 m) e))))
  where
    row : (j : ℕ) → listed (put_in f k i x j) 0 m ≡ put (λ j. listed (f j) 0 m) k (listed (put (f k) i x) 0 m) j
    row j = dite (ℕ_discrete j k)
        (λ e. subst (λ (y : ℕ). listed (put_in f k i x y) 0 m ≡ put (λ j. listed (f j) 0 m) k (listed (put (f k) i x) 0 m) y) (sym e)
        (ap (λ (g : ℕ → ℕ). listed g 0 m) (put_in_row f k i x) ∙ sym (put_here (λ j. listed (f j) 0 m) k (listed (put (f k) i x) 0 m))))
        (λ other. ap (λ (g : ℕ → ℕ). listed g 0 m) (put_else f k (put (f k) i x) j other) ∙ sym (put_else (λ j. listed (f j) 0 m) k (listed (put (f k) i x) 0 m) j other))

module _ (rows : List (List ℕ)) (k i x : ℕ) (low : k < length rows) (short : i < length (slice_index_or rows k [])) where
  -- a word of changed rows
  pub word_in-with : (j y : ℕ) → word_in (with_word_in rows k i x) j y ≡ put_in (word_in rows) k i x j y
  word_in-with j y = each_set (λ (j : ℕ) (row : List ℕ). slice_index_or row y 0 ≡ put_in (word_in rows) k i x j y) rows k (slice_set (slice_index_or rows k []) i x) [] low
      (each_set (λ (y v : ℕ). v ≡ put_in (word_in rows) k i x k y) (slice_index_or rows k []) i x 0 short (sym (put_in_here (word_in rows) k i x)) (λ y other. sym (put_in_else (word_in rows) k i x k y (λ _. other))) y)
      (λ j other. sym (put_in_else (word_in rows) k i x j y (λ e. absurd (other e)))) j

  pub length-with : (j : ℕ) → length (slice_index_or (with_word_in rows k i x) j []) ≡ length (slice_index_or rows j [])
  length-with = each_set (λ (j : ℕ) (row : List ℕ). length row ≡ length (slice_index_or rows j [])) rows k (slice_set (slice_index_or rows k []) i x) [] low (length-set (slice_index_or rows k []) i x) (λ j other. refl)

-- ---- sums

pub total-same : (f g : ℕ → ℕ) (n : ℕ) → ((x : ℕ) → x < n → g x ≡ f x) → total g n ≡ total f n
total-same f g zero same = refl
total-same f g (suc n) same = let a = total-same f g n (λ x h. same x (omega arith)) in let b = same n (omega arith) in λ i. a i + b i

-- one summand is greater
pub total-more : (f g : ℕ → ℕ) (k n : ℕ) → k < n → f k + 1 ≤ g k → ((x : ℕ) → x < n → x ≢ k → g x ≡ f x) → total f n + 1 ≤ total g n
total-more f g k zero low more same = absurd (omega arith)
total-more f g k (suc n) low more same = dite (ℕ_discrete k n)
    (λ e. let before = total-same f g n (λ x h. same x (omega arith) (omega arith)) in let here : f n + 1 ≤ g n = subst (λ (j : ℕ). f j + 1 ≤ g j) e more in omega arith)
    (λ ne. let before = total-more f g k n (omega arith) more (λ x h other. same x (omega arith) other) in let here = same n (omega arith) (λ e. ne (sym e)) in omega arith)

-- no sum is above its bound
pub total-bound : (f : ℕ → ℕ) (b n m : ℕ) → ((x : ℕ) → x < n → f x ≤ b) → m ≡ total (λ _. b) n → total f n ≤ m
total-bound f b zero m few e = omega arith
total-bound f b (suc n) m few e = let a = total-bound f b n (total (λ _. b) n) (λ x h. few x (omega arith)) refl in let c = few n (omega arith) in omega arith
