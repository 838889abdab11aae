-- The first write that passes a test.
use Rattle.std.proofs.Common.{◌≡◌, ℕ, zero, suc, ◌-◌, ◌<◌, ◌≤◌, Bool, true, false, cond, not, List, [], ◌∷◌, ◌++◌, length, get_or, take, drop, map, replicate, refl, sym, ap, ◌∙◌, arith}
use Rattle.std.proofs.lemmas.Bool.{ne_eqb, ltb-true, ltb-false, lt-ltb, le-ltb}
use Rattle.std.proofs.lemmas.List.Sums.{take_while-cons}
use Rattle.std.specs.Prelude.{◌==◌, ◌||◌, nat_lt, take_while}
use Rattle.std.specs.List.{AllByRecursion}
use Rattle.lst_machine.specs.State.{Accepted}
use Rattle.lst_plain.specs.Lineages.{HolderState, lesser, least_first, tails_before}
use Rattle.lst_plain.specs.Pages.{one_later, first_where}
use Rattle.lst_plain.proofs.Acting.{ends}

-- what holds of each, holds of each by a weaker claim
pub all_from : (P Q : Accepted → Type 0) (ws : List Accepted) → ((w : Accepted) → P w → Q w) → AllByRecursion P ws → AllByRecursion Q ws
all_from P Q [] weaker all = tt
all_from P Q (w ∷ ws) weaker all = (weaker w all.0, all_from P Q ws weaker all.1)

pub all-append : (P : Accepted → Type 0) (ws : List Accepted) (w : Accepted) → AllByRecursion P ws → P w → AllByRecursion P (ws ++ w ∷ [])
all-append P [] w all last = (last, tt)
all-append P (first ∷ ws) w all last = (all.0, all-append P ws w all.1 last)

pub first-same : (f g : Accepted → Bool) (ws : List Accepted) → AllByRecursion (λ w. f w ≡ g w) ws → first_where f ws ≡ first_where g ws
first-same f g [] same = refl
first-same f g (w ∷ ws) same =
    ap (λ b. cond b 1 (one_later (first_where f ws))) same.0
    ∙ ap (λ n. cond (g w) 1 (one_later n)) (first-same f g ws same.1)

pub first-none : (f : Accepted → Bool) (ws : List Accepted) → AllByRecursion (λ w. f w ≡ false) ws → first_where f ws ≡ 0
first-none f [] none = refl
first-none f (w ∷ ws) none = ap (λ b. cond b 1 (one_later (first_where f ws))) none.0 ∙ ap one_later (first-none f ws none.1)

-- one more write
abbrev pub first_or : ℕ → Bool → ℕ → ℕ
first_or zero passes place = cond passes place 0
first_or (suc first) passes place = suc first

one_later-or : (n : ℕ) (b : Bool) (place : ℕ) → one_later (first_or n b (suc place)) ≡ first_or (one_later n) b (suc (suc place))
one_later-or zero true place = refl
one_later-or zero false place = refl
one_later-or (suc n) b place = refl

first-append' : (f : Accepted → Bool) (ws : List Accepted) (w : Accepted) → first_where f (ws ++ w ∷ []) ≡ first_or (first_where f ws) (f w) (suc (length ws))
first-append' f [] w = refl
first-append' f (first ∷ ws) w = step (f first) (first-append' f ws w)
  where
    step : (b : Bool) → first_where f (ws ++ w ∷ []) ≡ first_or (first_where f ws) (f w) (suc (length ws))
        → cond b 1 (one_later (first_where f (ws ++ w ∷ []))) ≡ first_or (cond b 1 (one_later (first_where f ws))) (f w) (suc (suc (length ws)))
    step true rest = refl
    step false rest = ap one_later rest ∙ one_later-or (first_where f ws) (f w) (length ws)

-- a number that counts something is not 0
pub not_zero : (n : ℕ) → (suc n == 0) ≡ false
not_zero n = ne_eqb (suc n) 0 (λ e. absurd (omega (arith, e)))

first_or-cond : (n : ℕ) (b : Bool) (place : ℕ) → first_or n b place ≡ cond (n == 0) (cond b place 0) n
first_or-cond zero b place = refl
first_or-cond (suc n) b place = sym (ap (λ t. cond t (cond b place 0) (suc n)) (not_zero n))

pub first-append : (f : Accepted → Bool) (ws : List Accepted) (w : Accepted) → first_where f (ws ++ w ∷ []) ≡ cond (first_where f ws == 0) (cond (f w) (suc (length ws)) 0) (first_where f ws)
first-append f ws w = first-append' f ws w ∙ first_or-cond (first_where f ws) (f w) (suc (length ws))

-- ---- either of two tests

lesser-none : (a : ℕ) → lesser (suc a) 0 ≡ suc a
lesser-none a = ap (λ t. cond t 0 (cond (0 == 0 || nat_lt (suc a) 0) (suc a) 0)) (not_zero a)

lesser-suc : (a b : ℕ) → lesser (suc a) (suc b) ≡ cond (nat_lt (suc a) (suc b)) (suc a) (suc b)
lesser-suc a b =
    ap (λ t. cond t (suc b) (cond (suc b == 0 || nat_lt (suc a) (suc b)) (suc a) (suc b))) (not_zero a)
    ∙ ap (λ t. cond (t || nat_lt (suc a) (suc b)) (suc a) (suc b)) (not_zero b)

later-lesser : (a b : ℕ) → one_later (lesser a b) ≡ lesser (one_later a) (one_later b)
later-lesser zero b = refl
later-lesser (suc a) zero = ap one_later (lesser-none a) ∙ sym (lesser-none (suc a))
later-lesser (suc a) (suc b) = ap one_later (lesser-suc a b) ∙ step (nat_lt (suc a) (suc b)) refl ∙ sym (lesser-suc (suc a) (suc b))
  where
    step : (t : Bool) → nat_lt (suc a) (suc b) ≡ t → one_later (cond t (suc a) (suc b)) ≡ cond (nat_lt (suc (suc a)) (suc (suc b))) (suc (suc a)) (suc (suc b))
    step true is = let low : suc a < suc b = ltb-true (suc a) (suc b) is in ap (λ t. cond t (suc (suc a)) (suc (suc b))) (sym (lt-ltb (suc (suc a)) (suc (suc b)) (omega (arith, low))))
    step false is =
        let low : suc b ≤ suc a = ltb-false (suc a) (suc b) is in
        ap (λ t. cond t (suc (suc a)) (suc (suc b))) (sym (le-ltb (suc (suc a)) (suc (suc b)) (omega (arith, low))))

one-first : (n : ℕ) → lesser 1 (one_later n) ≡ 1
one-first zero = refl
one-first (suc n) = lesser-suc 0 (suc n) ∙ ap (λ t. cond t 1 (suc (suc n))) (lt-ltb 1 (suc (suc n)) (omega arith))

first-one : (n : ℕ) → lesser (one_later n) 1 ≡ 1
first-one zero = refl
first-one (suc n) = lesser-suc (suc n) 0 ∙ ap (λ t. cond t (suc (suc n)) 1) (le-ltb (suc (suc n)) 1 (omega arith))

pub first-either : (f g : Accepted → Bool) (ws : List Accepted) → first_where (λ w. f w || g w) ws ≡ lesser (first_where f ws) (first_where g ws)
first-either f g [] = refl
first-either f g (w ∷ ws) = step (f w) (g w) (first-either f g ws)
  where
    step : (a b : Bool) → first_where (λ w. f w || g w) ws ≡ lesser (first_where f ws) (first_where g ws)
        → cond (a || b) 1 (one_later (first_where (λ w. f w || g w) ws)) ≡ lesser (cond a 1 (one_later (first_where f ws))) (cond b 1 (one_later (first_where g ws)))
    step true true rest = refl
    step true false rest = sym (one-first (first_where g ws))
    step false true rest = sym (first-one (first_where f ws))
    step false false rest = ap one_later rest ∙ later-lesser (first_where f ws) (first_where g ws)

-- ---- the writes before the first one that fails

later-before : (n count : ℕ) → tails_before (one_later n) (suc count) ≡ suc (tails_before n count)
later-before zero count = refl
later-before (suc n) count =
    ap (λ t. cond t (suc count) (suc (suc n) - 1)) (not_zero (suc n))
    ∙ (let one : suc (suc n) - 1 ≡ suc (suc n - 1) = omega arith in one)
    ∙ ap suc (sym (ap (λ t. cond t count (suc n - 1)) (not_zero n)))

pub settled-before : (test : Accepted → Bool) (ws : List Accepted) → length (take_while test ws) ≡ tails_before (first_where (λ w. not (test w)) ws) (length ws)
settled-before test [] = refl
settled-before test (w ∷ ws) = ap length (take_while-cons test w ws) ∙ step (test w) (settled-before test ws)
  where
    step : (b : Bool) → length (take_while test ws) ≡ tails_before (first_where (λ w. not (test w)) ws) (length ws)
        → length (cond b (w ∷ take_while test ws) []) ≡ tails_before (cond (not b) 1 (one_later (first_where (λ w. not (test w)) ws))) (suc (length ws))
    step true rest = ap suc rest ∙ sym (later-before (first_where (λ w. not (test w)) ws) (length ws))
    step false rest = refl

-- ---- the least over sessions, one by one

pub least-append : (least : ℕ) (holders : List HolderState) (holder : HolderState) (range : ℕ) → least_first least (holders ++ holder ∷ []) range ≡ lesser (least_first least holders range) (get_or holder.firsts range 0)
least-append least [] holder range = refl
least-append least (first ∷ holders) holder range = least-append (lesser least (get_or first.firsts range 0)) holders holder range

-- ---- loops over all of a list

drop-end : {A : Type 0} (xs : List A) → drop (length xs) xs ≡ []
drop-end [] = refl
drop-end (x ∷ xs) = drop-end xs

take-end : {A : Type 0} (xs : List A) → take (length xs) xs ≡ xs
take-end [] = refl
take-end (x ∷ xs) = ap (λ rest. x ∷ rest) (take-end xs)

pub filled : (xs : List ℕ) → replicate (length xs) 0 ++ drop (length xs) xs ≡ replicate (length xs) 0
filled xs = ap (λ rest. replicate (length xs) 0 ++ rest) (drop-end xs) ∙ ends (replicate (length xs) 0)

pub mapped : {A : Type 0} (f : A → A) (xs : List A) → map f (take (length xs) xs) ++ drop (length xs) xs ≡ map f xs
mapped f xs = (λ i. map f (take-end xs i) ++ drop-end xs i) ∙ ends (map f xs)
