-- Chains as lists of tails, newest first, and the acts that a choice of their tails makes, oldest first.
use Rattle.std.specs.Prelude.{◌≡◌, ◌≢◌, ◌⊎◌, ℕ, zero, suc, ◌<◌, ◌≤◌, List, [], ◌∷◌, ◌++◌, Bool, true, false, cond, not, eqb, nat_lt, nat_le, ◌+◌, ◌&&◌}

abbrev pub Has : ℕ → List ℕ → Type 0
Has t [] = ⊥
Has t (x ∷ xs) = (t ≡ x) ⊎ Has t xs

-- from the tail n on, at most f tails
abbrev pub chain : ℕ → (ℕ → ℕ) → ℕ → List ℕ
chain zero back n = []
chain (suc f) back zero = []
chain (suc f) back (suc m) = suc m ∷ chain f back (back (suc m))

abbrev pub chain_of : (ℕ → ℕ) → ℕ → List ℕ
chain_of back n = chain n back n

-- the back words lead from h along the list, to ever lower tails
abbrev pub Links : (ℕ → ℕ) → ℕ → List ℕ → Type 0
Links back h [] = h ≡ 0
Links back h (x ∷ xs) = (h ≡ x) × (0 < x) × (back x < x) × Links back (back x) xs

-- the acts of the tails that p takes
abbrev pub acts : {A : Type 0} → (ℕ → Bool) → (ℕ → A) → List ℕ → List A
acts p a [] = []
acts p a (y ∷ ys) = cond (p y) (acts p a ys ++ a y ∷ []) (acts p a ys)

-- whatever lies under a tail that p takes is not taken by q
abbrev pub Apart : (ℕ → Bool) → (ℕ → Bool) → List ℕ → Type 0
Apart p q [] = Unit {0}
Apart p q (y ∷ ys) = (p y ≡ true → (x : ℕ) → Has x ys → q x ≡ false) × Apart p q ys

-- R holds of each tail x and each y above it
abbrev pub Pairs : (ℕ → ℕ → Type 0) → List ℕ → Type 0
Pairs R [] = Unit {0}
Pairs R (y ∷ ys) = ((x : ℕ) → Has x ys → R x y) × Pairs R ys

-- the numbers from n down to 1
abbrev pub down : ℕ → List ℕ
down zero = []
down (suc n) = suc n ∷ down n

-- a lower version x under one of own: one writer, or x was committed at most at own's begin.
-- W gives a tail's writer, st and bw a transaction's state word and begin word; 1 is a closed one
abbrev pub Under : (ℕ → ℕ) → (ℕ → ℕ) → (ℕ → ℕ) → ℕ → ℕ → Type 0
Under st bw W own x = st (W x) ≢ 1 → (W x ≡ own) ⊎ ((1 < st (W x)) × (st (W x) ≤ bw own))

abbrev pub Below : (ℕ → ℕ) → (ℕ → ℕ) → (ℕ → ℕ) → ℕ → List ℕ → Type 0
Below st bw W own [] = Unit {0}
Below st bw W own (x ∷ xs) = Under st bw W own x × Below st bw W own xs

-- all pairs of a chain's versions that are not closed
abbrev pub Ordered : (ℕ → ℕ) → (ℕ → ℕ) → (ℕ → ℕ) → List ℕ → Type 0
Ordered st bw W [] = Unit {0}
Ordered st bw W (y ∷ ys) = (st (W y) ≢ 1 → Below st bw W (W y) ys) × Ordered st bw W ys

-- the first version that is not closed is own, or was committed at most at own's begin
abbrev pub Judged : (ℕ → ℕ) → (ℕ → ℕ) → (ℕ → ℕ) → ℕ → List ℕ → Type 0
Judged st bw W own [] = Unit {0}
Judged st bw W own (y ∷ ys) = Under st bw W own y × (st (W y) ≡ 1 → Judged st bw W own ys)

-- F says which act fits those before it. Each version that is not closed fits those below it that are not
abbrev pub is_live : (ℕ → ℕ) → (ℕ → ℕ) → ℕ → Bool
is_live st W t = not (eqb (st (W t)) 1)

abbrev pub Fitting : {A : Type 0} → (List A → A → Type 0) → (ℕ → ℕ) → (ℕ → ℕ) → (ℕ → A) → List ℕ → Type 0
Fitting F st W a [] = Unit {0}
Fitting F st W a (y ∷ ys) = (st (W y) ≢ 1 → F (acts (is_live st W) a ys) (a y)) × Fitting F st W a ys

-- each act of the list fits base and those before it
abbrev pub Fitted : {A : Type 0} → (List A → A → Type 0) → List A → List A → Type 0
Fitted F base [] = Unit {0}
Fitted F base (a ∷ rest) = F base a × Fitted F (base ++ a ∷ []) rest

-- committed at most at b, by a state word
abbrev pub is_until : ℕ → ℕ → Bool
is_until b x = nat_lt 1 x && nat_le x (b + 1)

-- the m numbers above n, from n + m down to n + 1
abbrev pub above : ℕ → ℕ → List ℕ
above n zero = []
above n (suc m) = (n + suc m) ∷ above n m
