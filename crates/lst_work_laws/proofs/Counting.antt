-- Sums over sessions, and lists that have many things.
use Rattle.std.proofs.Common.{◌≡◌, ℕ, zero, suc, ◌+◌, ◌<◌, ◌≤◌, List, [], ◌∷◌, ◌++◌, Bool, true, false, cond, eqb, ◌&&◌, length, take, drop, map, Option, Some, None, refl, subst, ap, ◌∙◌, arith, ⊎_elim}
use Rattle.std.specs.Prelude.{get_or}
use Rattle.std.specs.List.{count_by, Contains, list_any}
use Rattle.std.proofs.lemmas.List.{length-append, length-map}
use Rattle.std.proofs.lemmas.List.Sums.{sum_by-take-drop, sum_by-drop_more, sum_by-cons}
use Rattle.std.proofs.lemmas.List.Elements.{Contains-append_left, Contains-append_right}
use Rattle.std.proofs.lemmas.Bool.{eq-eqb, ne_eqb, eqb-true, and_right, cases_eq, or_cases, or_left, or_right}
use Rattle.lst_replies.specs.Runs.{Answered, names, speaker_of, is_by}

-- the sum of what is below n
abbrev pub total : (ℕ → ℕ) → ℕ → ℕ
total f zero = 0
total f (suc n) = total f n + f n

pub total_le : (f g : ℕ → ℕ) (n : ℕ) → ((i : ℕ) → i < n → f i ≤ g i) → total f n ≤ total g n
total_le f g zero h = omega arith
total_le f g (suc n) h = let rest = total_le f g n (λ i l. h i (omega arith)) in let last = h n (omega arith) in omega arith

total_add : (f g : ℕ → ℕ) (n : ℕ) → total (λ i. f i + g i) n ≡ total f n + total g n
total_add f g zero = refl
total_add f g (suc n) = let rest = total_add f g n in omega arith

total_zero : (f : ℕ → ℕ) (n : ℕ) → ((i : ℕ) → i < n → f i ≡ 0) → total f n ≡ 0
total_zero f zero h = refl
total_zero f (suc n) h = let rest = total_zero f n (λ i l. h i (omega arith)) in let last = h n (omega arith) in omega arith

total_ones : (f : ℕ → ℕ) (n : ℕ) → ((i : ℕ) → i < n → 1 ≤ f i) → n ≤ total f n
total_ones f zero h = omega arith
total_ones f (suc n) h = let rest = total_ones f n (λ i l. h i (omega arith)) in let last = h n (omega arith) in omega arith

-- of numbers in a row at most one is y
total_once : (base y n : ℕ) → total (λ i. cond {A = ℕ} (eqb (base + i) y) 1 0) n ≤ 1
total_once base y zero = omega arith
total_once base y (suc n) = by_test (eqb (base + n) y) refl (total_once base y n)
  where
    by_test : (b : Bool) → eqb (base + n) y ≡ b → total (λ i. cond {A = ℕ} (eqb (base + i) y) 1 0) n ≤ 1 → total (λ i. cond {A = ℕ} (eqb (base + i) y) 1 0) n + cond {A = ℕ} b 1 0 ≤ 1
    by_test true e rest =
        let at = eqb-true (base + n) y e in
        let none = total_zero (λ i. cond {A = ℕ} (eqb (base + i) y) 1 0) n (λ i l. ap (λ (b : Bool). cond {A = ℕ} b 1 0) (ne_eqb (base + i) y (λ is. absurd (omega arith)))) in omega arith
    by_test false e rest = omega arith

-- ---- a list that has many numbers is long

total_counts : (base m : ℕ) (ys : List ℕ) → total (λ i. count_by (λ y. eqb (base + i) y) ys) m ≤ length ys
total_counts base m [] = let none = total_zero (λ i. count_by (λ y. eqb (base + i) y) []) m (λ i l. refl) in omega arith
total_counts base m (y ∷ ys) =
    let split = total_le (λ i. count_by (λ z. eqb (base + i) z) (y ∷ ys)) (λ i. cond {A = ℕ} (eqb (base + i) y) 1 0 + count_by (λ z. eqb (base + i) z) ys) m
    (λ i l. let e : count_by (λ z. eqb (base + i) z) (y ∷ ys) ≡ cond {A = ℕ} (eqb (base + i) y) 1 0 + count_by (λ z. eqb (base + i) z) ys = sum_by-cons (λ z. cond {A = ℕ} (eqb (base + i) z) 1 0) y ys in omega arith) in
    let parts = total_add (λ i. cond {A = ℕ} (eqb (base + i) y) 1 0) (λ i. count_by (λ z. eqb (base + i) z) ys) m in
    let once = total_once base y m in let rest = total_counts base m ys in omega arith

-- an element that passes the test is counted
pub one_counted : {X : Type 0} (p : X → Bool) (xs : List X) (x : X) → Contains xs x → p x ≡ true → 1 ≤ count_by p xs
one_counted {X} p xs x h e =
    let a : count_by p (take h.0 xs) + count_by p (drop h.0 xs) ≡ count_by p xs = sum_by-take-drop (λ (y : X). cond (p y) 1 0) xs h.0 in
    let b : count_by p (drop h.0 xs) ≡ cond (p (get_or xs h.0 x)) 1 0 + count_by p (drop (h.0 + 1) xs) = sum_by-drop_more (λ (y : X). cond (p y) 1 0) xs h.0 x h.1 in
    let c : cond {A = ℕ} (p (get_or xs h.0 x)) 1 0 ≡ 1 = ap (λ (y : X). cond {A = ℕ} (p y) 1 0) h.2 ∙ ap (λ (b : Bool). cond {A = ℕ} b 1 0) e in omega arith

-- a list that has m numbers in a row has m elements or more
pub many : (base m : ℕ) (ys : List ℕ) → ((i : ℕ) → i < m → Contains ys (base + i)) → m ≤ length ys
many base m ys has =
    let a = total_ones (λ i. count_by (λ y. eqb (base + i) y) ys) m (λ i l. one_counted (λ y. eqb (base + i) y) ys (base + i) (has i l) (eq-eqb (base + i) (base + i) refl)) in
    let b = total_counts base m ys in omega arith

-- ---- the lists of all sessions

abbrev pub gathered : {X : Type 0} → (ℕ → List X) → ℕ → List X
gathered f zero = []
gathered f (suc n) = gathered f n ++ f n

pub gathered_has : {X : Type 0} (f : ℕ → List X) (n s : ℕ) (x : X) → s < n → Contains (f s) x → Contains (gathered f n) x
gathered_has {X} f zero s x low h = absurd (omega arith)
gathered_has {X} f (suc n) s x low h = ⊎_elim
    (λ (e : s ≡ n). Contains-append_right (gathered f n) (f n) x (subst (λ (i : ℕ). Contains (f i) x) e h))
    (λ (ne : ¬ (s ≡ n)). Contains-append_left (gathered f n) (f n) x (gathered_has f n s x (grind (arith, ne, low)) h)) (cases_eq s n)

pub gathered_length : {X : Type 0} (f : ℕ → List X) (n : ℕ) → length (gathered f n) ≡ total (λ s. length (f s)) n
gathered_length f zero = refl
gathered_length f (suc n) = let rest = gathered_length f n in let e = length-append (gathered f n) (f n) in omega arith

pub Contains-map : {X Y : Type 0} (f : X → Y) (xs : List X) (x : X) → Contains xs x → Contains (map f xs) (f x)
Contains-map {X} {Y} f xs x h = (h.0, let low = h.1 in omega (arith, length-map xs f), at xs h.0 h.2)
  where
    at : (ys : List X) (k : ℕ) → get_or ys k x ≡ x → get_or (map f ys) k (f x) ≡ f x
    at [] k e = refl
    at (y ∷ ys) zero e = ap f e
    at (y ∷ ys) (suc k) e = at ys k e

-- ---- counts by session

cond_le : (b : Bool) → cond {A = ℕ} b 1 0 ≤ 1
cond_le true = omega arith
cond_le false = omega arith

one_speaks : (p : Bool) (speaker : Option ℕ) (n : ℕ) → total (λ s. cond {A = ℕ} (names s speaker && p) 1 0) n ≤ cond {A = ℕ} p 1 0
one_speaks p None n = let none = total_zero (λ s. cond {A = ℕ} (names s None && p) 1 0) n (λ i l. refl) in omega arith
one_speaks false (Some t) n =
    let none = total_zero (λ s. cond {A = ℕ} (names s (Some t) && false) 1 0) n (λ i l. ap (λ (b : Bool). cond {A = ℕ} b 1 0) (and_right (eqb t i) false refl)) in omega arith
one_speaks true (Some t) n =
    let less = total_le (λ s. cond {A = ℕ} (names s (Some t) && true) 1 0) (λ s. cond {A = ℕ} (eqb (0 + s) t) 1 0) n (λ s l. ⊎_elim
    (λ (e : t ≡ s). let b : cond {A = ℕ} (eqb (0 + s) t) 1 0 ≡ 1 = ap (λ (b : Bool). cond {A = ℕ} b 1 0) (eq-eqb (0 + s) t (omega arith)) in let a = cond_le (eqb t s && true) in omega arith)
    (λ (ne : ¬ (t ≡ s)). let a : cond {A = ℕ} (eqb t s && true) 1 0 ≡ 0 = ap (λ (b : Bool). cond {A = ℕ} (b && true) 1 0) (ne_eqb t s ne) in omega arith) (cases_eq t s)) in
    let once = total_once 0 t n in omega arith

-- each line of a run is one session's at most
pub by_sessions : (p : Answered → Bool) (n : ℕ) (run : List Answered) → total (λ s. count_by (λ one. is_by s one && p one) run) n ≤ count_by p run
by_sessions p n [] = let none = total_zero (λ s. count_by (λ one. is_by s one && p one) []) n (λ i l. refl) in omega arith
by_sessions p n (one ∷ run) =
    let split = total_le (λ s. count_by (λ x. is_by s x && p x) (one ∷ run)) (λ s. cond {A = ℕ} (is_by s one && p one) 1 0 + count_by (λ x. is_by s x && p x) run) n
    (λ s l. let e : count_by (λ x. is_by s x && p x) (one ∷ run) ≡ cond {A = ℕ} (is_by s one && p one) 1 0 + count_by (λ x. is_by s x && p x) run = sum_by-cons (λ x. cond {A = ℕ} (is_by s x && p x) 1 0) one run in omega arith) in
    let parts = total_add (λ s. cond {A = ℕ} (is_by s one && p one) 1 0) (λ s. count_by (λ x. is_by s x && p x) run) n in
    let speaks = one_speaks (p one) (speaker_of one.line) n in let rest = by_sessions p n run in
    let all : count_by p (one ∷ run) ≡ cond {A = ℕ} (p one) 1 0 + count_by p run = sum_by-cons (λ x. cond {A = ℕ} (p x) 1 0) one run in omega arith

-- what passes one test passes the other
pub any_more : {X : Type 0} (p q : X → Bool) (xs : List X) → ((x : X) → p x ≡ true → q x ≡ true) → list_any p xs ≡ true → list_any q xs ≡ true
any_more {X} p q [] h e = e
any_more {X} p q (x ∷ xs) h e = ⊎_elim (λ (a : p x ≡ true). or_left (q x) (list_any q xs) (h x a)) (λ (a : list_any p xs ≡ true). or_right (q x) (list_any q xs) (any_more p q xs h a)) (or_cases (p x) (list_any p xs) e)
