-- Lists that grow at their ends: accepted writes and commits.
use Rattle.std.proofs.Common.{◌≡◌, ℕ, ◌+◌, Bool, true, false, cond, List, [], ◌∷◌, ◌++◌, length, refl, ap, ◌∙◌, arith}
use Rattle.std.specs.Prelude.{Option, Some, None, is_some, ◌==◌, ◌&&◌}
use Rattle.lst_model.specs.declared.acts.Write.{Write}
use Rattle.lst_model.specs.declared.commits.Commit.{Commit}
use Rattle.lst_model.specs.Histories.{joined}
use Rattle.lst_machine.specs.State.{Accepted}
use Rattle.lst_machine.specs.Writes.{time_of, last_where, gathered}

pub last-append : (f : Accepted → Bool) (xs : List Accepted) (y : Accepted) → last_where f (xs ++ y ∷ []) ≡ cond (f y) (Some y) (last_where f xs)
last-append f [] y = at_test (f y)
  where
    at_test : (b : Bool) → cond (is_some {T = Accepted} None) None (cond b (Some y) None) ≡ cond b (Some y) None
    at_test b = refl
last-append f (x ∷ xs) y =
    ap (λ last. cond (is_some last) last (cond (f x) (Some x) None)) (last-append f xs y) ∙ at_test (f y)
  where
    at_test : (b : Bool) → cond (is_some (cond b (Some y) (last_where f xs))) (cond b (Some y) (last_where f xs)) (cond (f x) (Some x) None)
        ≡ cond b (Some y) (cond (is_some (last_where f xs)) (last_where f xs) (cond (f x) (Some x) None))
    at_test true = refl
    at_test false = refl

-- what is gathered of two lists is gathered of the first and then of the second
pub gathered-append : (s n : ℕ) (writes : List Write) (xs ys : List Accepted) → gathered s n writes (xs ++ ys) ≡ gathered s n (gathered s n writes xs) ys
gathered-append s n writes [] ys = refl
gathered-append s n writes (x ∷ xs) ys = gathered-append s n (cond (x.session == s && x.number == n) (joined writes x.write) writes) xs ys

-- the time of a transaction once a commit stands last
abbrev pub or_last : Option ℕ → Bool → ℕ → Option ℕ
or_last (Some time) same last = Some time
or_last None same last = cond same (Some last) None

pub time-append : (history : List Commit) (commit : Commit) (s n : ℕ) → time_of (history ++ commit ∷ []) s n ≡ or_last (time_of history s n) (commit.session == s && commit.number == n) (length history + 1)
time-append [] commit s n = at_test (commit.session == s && commit.number == n) refl
  where
    at_test : (b : Bool) → (commit.session == s && commit.number == n) ≡ b → time_of (commit ∷ []) s n ≡ or_last None b (0 + 1)
    at_test true is = rw is refl
    at_test false is = rw is refl
time-append (first ∷ history) commit s n = at_test (time-append history commit s n) (first.session == s && first.number == n) refl (time_of history s n) refl (commit.session == s && commit.number == n) refl
  where
    at_test : time_of (history ++ commit ∷ []) s n ≡ or_last (time_of history s n) (commit.session == s && commit.number == n) (length history + 1)
        → (b : Bool) → (first.session == s && first.number == n) ≡ b → (t : Option ℕ) → time_of history s n ≡ t → (c : Bool) → (commit.session == s && commit.number == n) ≡ c
        → time_of (first ∷ (history ++ commit ∷ [])) s n ≡ or_last (time_of (first ∷ history) s n) (commit.session == s && commit.number == n) (length (first ∷ history) + 1)
    at_test rest true is t at c last = rw is refl
    at_test rest false is (Some t) at c last = rw (is, rest, at) refl
    at_test rest false is None at true last = rw (is, rest, at, last) (ap Some (omega arith))
    at_test rest false is None at false last = rw (is, rest, at, last) refl

-- a time that was found stays
pub time-front : (xs ys : List Commit) (s n t : ℕ) → time_of xs s n ≡ Some t → time_of (xs ++ ys) s n ≡ Some t
time-front [] ys s n t is = absurd (cc)
time-front (first ∷ xs) ys s n t is = at_test (time-front xs ys s n) (first.session == s && first.number == n) refl (time_of xs s n) refl
  where
    at_test : ((u : ℕ) → time_of xs s n ≡ Some u → time_of (xs ++ ys) s n ≡ Some u) → (b : Bool) → (first.session == s && first.number == n) ≡ b → (found : Option ℕ) → time_of xs s n ≡ found → time_of (first ∷ (xs ++ ys)) s n ≡ Some t
    at_test further true same found at = (let here : time_of (first ∷ (xs ++ ys)) s n ≡ time_of (first ∷ xs) s n = rw same refl in here) ∙ is
    at_test further false same (Some u) at = (let here : time_of (first ∷ (xs ++ ys)) s n ≡ time_of (first ∷ xs) s n = rw (same, further u at, at) refl in here) ∙ is
    at_test further false same None at = absurd (let none : time_of (first ∷ xs) s n ≡ None = rw (same, at) refl in cc)
