-- The pigeonhole principle: different numbers below a limit are at most as many as the limit.
use Rattle.std.proofs.Common.{◌≡◌, ◌≢◌, ℕ, zero, suc, ◌+◌, ◌<◌, ◌≤◌, cond, eqb, eq-eqb, eqb-true, ne_eqb, true≢false, refl, sym, subst, ap, ◌∙◌, arith, ◌⊎◌, ⊎_elim, inl, inr, List, [], ◌∷◌, ◌++◌, length, get_or, length-append}
use Rattle.std.specs.List.{Contains, position_or_len}
use Rattle.std.proofs.lemmas.List.{get_or_default}
use Rattle.std.proofs.lemmas.List.Elements.{Contains-append_left, Contains-append_right}
use Rattle.std.proofs.lemmas.List.Sums.{fails_before_first, passes_at_first}
use mathlib.Core.Logic.{dite}
use native.Mathlib.Decide.{ℕ_discrete, dec_lt}
use Rattle.lst_probe.specs.Counting.{total, Pigeonhole, DistinctWithin, DistinctAreFew, CoveringIsLong, OwnersAreMany}

pub pigeonhole : Pigeonhole
pigeonhole zero m f low apart = omega arith
pigeonhole (suc n) zero f low apart = let h = low n (omega arith) in omega arith
pigeonhole (suc n) (suc m) f low apart = let rest = pigeonhole n m moved moved_low moved_apart in omega arith
  where
    -- the number m, where the first n have it, changes places with that of n
    moved : ℕ → ℕ
    moved i = cond (eqb (f i) m) (f n) (f i)

    cases : (i : ℕ) → ((f i ≡ m) × (moved i ≡ f n)) ⊎ ((f i ≢ m) × (moved i ≡ f i))
    cases i = dite (ℕ_discrete (f i) m) (λ e. inl (e, ap (λ b. cond b (f n) (f i)) (eq-eqb (f i) m e))) (λ ne. inr (ne, ap (λ b. cond b (f n) (f i)) (ne_eqb (f i) m ne)))

    last : (i : ℕ) → i < n → f i ≢ f n
    last i h e = let d = apart i n (omega arith) (omega arith) e in omega arith

    moved_low : (i : ℕ) → i < n → moved i < m
    moved_low i h = let a = low i (omega arith) in let b = low n (omega arith) in let d = last i h in ⊎_elim (λ (t : (f i ≡ m) × (moved i ≡ f n)). omega arith) (λ (t : (f i ≢ m) × (moved i ≡ f i)). omega arith) (cases i)

    moved_apart : (i j : ℕ) → i < n → j < n → moved i ≡ moved j → i ≡ j
    moved_apart i j h k e = let a = last i h in let b = last j k in
        ⊎_elim (λ (t : (f i ≡ m) × (moved i ≡ f n)). ⊎_elim (λ (u : (f j ≡ m) × (moved j ≡ f n)). apart i j (omega arith) (omega arith) (omega arith)) (λ (u : (f j ≢ m) × (moved j ≡ f j)). absurd (omega arith)) (cases j))
        (λ (t : (f i ≢ m) × (moved i ≡ f i)). ⊎_elim (λ (u : (f j ≡ m) × (moved j ≡ f n)). absurd (omega arith)) (λ (u : (f j ≢ m) × (moved j ≡ f j)). apart i j (omega arith) (omega arith) (omega arith)) (cases j))
        (cases i)

-- where each number below n is tied to a number below m, and no two of them to one, n is at most m
pub pigeonhole_by : (n m : ℕ) (Tied : ℕ → ℕ → Type 0) → ((i : ℕ) → i < n → (j : ℕ) × (j < m) × Tied i j) → ((i k j : ℕ) → i < n → k < n → Tied i j → Tied k j → i ≡ k) → n ≤ m
pigeonhole_by n m Tied has one = pigeonhole n m chosen (λ i h. (is_tied i h).0) (λ i k h low e. one i k (chosen k) h low (subst (λ (j : ℕ). Tied i j) e (is_tied i h).1) (is_tied k low).1)
  where
    chosen : ℕ → ℕ
    chosen i = dite (dec_lt i n) (λ h. (has i h).0) (λ _. 0)

    is_tied : (i : ℕ) → i < n → (chosen i < m) × Tied i (chosen i)
    is_tied i low = elim (dec_lt i n) as (λ d. (dite d (λ h. (has i h).0) (λ _. 0) < m) × Tied i (dite d (λ h. (has i h).0) (λ _. 0))) [ yes h ↦ ((has i h).1, (has i h).2) | no h ↦ absurd (h low) ]

pub distinct_within : {X : Type 0} → DistinctWithin X
distinct_within [] within apart stand = omega arith
distinct_within {X} (first ∷ items) within apart stand = pigeonhole_by (length (first ∷ items)) (length within) (λ i j. (j < length within) × (get_or within j first ≡ get_or (first ∷ items) i first))
    (λ i h. let k = stand i first h in (k.0, k.1, (k.1, get_or_default within k.0 first (get_or (first ∷ items) i first) k.1 ∙ k.2)))
    (λ i k j h low a b. let same : get_or (first ∷ items) i first ≡ get_or (first ∷ items) k first = sym a.1 ∙ b.1 in
    dite (dec_lt i k) (λ (before : i < k). absurd (apart i k first before low same)) (λ past. dite (dec_lt k i) (λ (before : k < i). absurd (apart k i first before h (sym same))) (λ upto. omega (arith, past, upto))))

pub distinct_are_few : DistinctAreFew
distinct_are_few m numbers low apart = pigeonhole (length numbers) m (λ i. get_or numbers i 0) (λ i h. low i 0 h)
    (λ i j h k e. dite (dec_lt i j) (λ (a : i < j). absurd (apart i j 0 a k e)) (λ a. dite (dec_lt j i) (λ (b : j < i). absurd (apart j i 0 b h (sym e))) (λ b. omega (arith, a, b))))

-- where a number stands first in a list
abbrev place_of : List ℕ → ℕ → ℕ
place_of numbers number = position_or_len (λ other. eqb other number) numbers

place_of-lt : (numbers : List ℕ) (number : ℕ) → Contains numbers number → place_of numbers number < length numbers
place_of-lt numbers number h = dite (dec_lt (place_of numbers number) (length numbers)) (λ a. a)
    (λ a. let past : h.0 < place_of numbers number = (let g : h.0 < length numbers = h.1 in omega (arith, a)) in
    absurd (true≢false (sym (eq-eqb (get_or numbers h.0 number) number h.2) ∙ fails_before_first (λ other. eqb other number) numbers h.0 number past)))

place_of-get : (numbers : List ℕ) (number : ℕ) → Contains numbers number → get_or numbers (place_of numbers number) 0 ≡ number
place_of-get numbers number h = eqb-true (get_or numbers (place_of numbers number) 0) number (passes_at_first (λ other. eqb other number) numbers 0 (place_of-lt numbers number h))

pub covering_is_long : CoveringIsLong
covering_is_long n numbers covers = pigeonhole n (length numbers) (place_of numbers) (λ i h. place_of-lt numbers i (covers i h))
    (λ i j h k e. sym (place_of-get numbers i (covers i h)) ∙ ap (λ (p : ℕ). get_or numbers p 0) e ∙ place_of-get numbers j (covers j k))

-- the lists of the owners below m, one behind the other
abbrev joined : ℕ → (ℕ → List ℕ) → List ℕ
joined zero owned = []
joined (suc m) owned = joined m owned ++ owned m

length-joined : (m : ℕ) (owned : ℕ → List ℕ) → length (joined m owned) ≡ total m (λ one. length (owned one))
length-joined zero owned = refl
length-joined (suc m) owned = length-append (joined m owned) (owned m) ∙ ap (λ (n : ℕ). n + length (owned m)) (length-joined m owned)

Contains-joined : (m : ℕ) (owned : ℕ → List ℕ) (one number : ℕ) → one < m → Contains (owned one) number → Contains (joined m owned) number
Contains-joined zero owned one number h has = absurd (omega arith)
Contains-joined (suc m) owned one number h has = dite (ℕ_discrete one m)
    (λ (e : one ≡ m). Contains-append_right (joined m owned) (owned m) number (subst (λ (o : ℕ). Contains (owned o) number) e has))
    (λ (e : one ≢ m). Contains-append_left (joined m owned) (owned m) number (Contains-joined m owned one number (omega (arith, e)) has))

pub owners_are_many : OwnersAreMany
owners_are_many n m owned owner owns = subst (λ (all : ℕ). n ≤ all) (length-joined m owned)
    (covering_is_long n (joined m owned) (λ number h. Contains-joined m owned (owner number) number (owns number h).0 (owns number h).1))
