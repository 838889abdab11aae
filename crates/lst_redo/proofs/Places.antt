-- Lists of writes that are changed at a place.
use Rattle.std.proofs.Common.{◌≡◌, ℕ, zero, suc, ◌+◌, ◌<◌, ◌≤◌, Bool, true, false, List, [], ◌∷◌, ◌++◌, cond, length, take, drop, get_or, set, replicate, refl, ap, ◌∙◌, arith}
use Rattle.std.specs.Prelude.{nat_lt}
use Rattle.std.specs.List.{AllByRecursion, insert, remove}
use Rattle.lst_model.specs.declared.acts.Write.{Write}
use Rattle.lst_model.specs.Histories.{joined}

pub set_set : {A : Type 0} (xs : List A) (i : ℕ) (a b : A) → set (set xs i a) i b ≡ set xs i b
set_set [] i a b = refl
set_set (x ∷ xs) zero a b = refl
set_set {A} (x ∷ xs) (suc i) a b = ap (λ (ys : List A). x ∷ ys) (set_set xs i a b)

pub remove_insert : {A : Type 0} (xs : List A) (i : ℕ) (a : A) → i ≤ length xs → remove (insert xs i a) i ≡ xs
remove_insert [] zero a within = refl
remove_insert [] (suc i) a within = absurd (omega arith)
remove_insert (x ∷ xs) zero a within = refl
remove_insert {A} (x ∷ xs) (suc i) a within = ap (λ (ys : List A). x ∷ ys) (remove_insert xs i a (omega arith))

-- at a place of the list the default doesn't matter
pub get_or_other : {A : Type 0} (xs : List A) (i : ℕ) (a b : A) → i < length xs → get_or xs i a ≡ get_or xs i b
get_or_other [] i a b low = absurd (omega arith)
get_or_other (x ∷ xs) zero a b low = refl
get_or_other (x ∷ xs) (suc i) a b low = get_or_other xs i a b (omega arith)

pub replicate_more : {A : Type 0} (n : ℕ) (a : A) → replicate n a ++ a ∷ [] ≡ replicate (n + 1) a
replicate_more {A} n a = next n ∙ ap (λ (m : ℕ). replicate m a) (let e : suc n ≡ n + 1 = omega arith in e)
  where
    next : (m : ℕ) → replicate m a ++ a ∷ [] ≡ replicate (suc m) a
    next zero = refl
    next (suc m) = ap (λ (ys : List A). a ∷ ys) (next m)

pub all_joined : (P : Write → Type 0) (ws : List Write) (w : Write) → AllByRecursion P ws → P w → AllByRecursion P (joined ws w)
all_joined P [] w all here = (here, tt)
all_joined P (x ∷ ws) w all here = at (nat_lt w.key x.key) (all_joined P ws w all.1 here)
  where
    at : (b : Bool) → AllByRecursion P (joined ws w) → AllByRecursion P (cond b (w ∷ x ∷ ws) (x ∷ joined ws w))
    at true rest = (here, all)
    at false rest = (all.0, rest)

pub length-joined : (ws : List Write) (w : Write) → length (joined ws w) ≡ length ws + 1
length-joined [] w = refl
length-joined (x ∷ ws) w = at (nat_lt w.key x.key) (length-joined ws w)
  where
    at : (b : Bool) → length (joined ws w) ≡ length ws + 1 → length (cond b (w ∷ x ∷ ws) (x ∷ joined ws w)) ≡ length (x ∷ ws) + 1
    at true rest = omega arith
    at false rest = omega (arith, rest)
