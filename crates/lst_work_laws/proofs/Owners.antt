-- Whose the commits of a store's history are.
use Rattle.std.proofs.Common.{◌≡◌, ℕ, zero, suc, ◌+◌, ◌%◌, ◌<◌, ◌≤◌, List, [], ◌∷◌, ◌++◌, Bool, true, false, cond, eqb, length, get_or, refl, sym, subst, ap, ◌∙◌, arith}
use Rattle.std.specs.List.{sum_by, AllByRecursion}
use Rattle.std.proofs.lemmas.Bool.{eqb-true, eqb-false, ne_eqb}
use Rattle.std.proofs.lemmas.Grind.{get_or_after_one}
use Rattle.std.proofs.lemmas.List.Sums.{sum_by-cons}
use Rattle.lst_model.specs.declared.acts.Write.{Write}
use Rattle.lst_model.specs.declared.commits.Commit.{Commit}
use Rattle.lst_core_state.specs.State.{Core, history, history_of, commits_of, commit_at, writes_of}
use Rattle.lst_core_state.specs.Sound.{Sound}

-- ---- each commit is of a session of the store

abbrev pub AreOwned : ℕ → List Commit → Type 0
AreOwned n commits = AllByRecursion (λ (one : Commit). one.session < n) commits

owned_more : (n : ℕ) (commits : List Commit) (one : Commit) → AreOwned n commits → one.session < n → AreOwned n (commits ++ one ∷ [])
owned_more n [] one all low = (low, tt)
owned_more n (first ∷ commits) one all low = (all.0, owned_more n commits one all.1 low)

history_owned : (n clock : ℕ) (log : ℕ → ℕ) (begins : ℕ → ℕ → ℕ) (ws : ℕ → List Write) → ((t : ℕ) → 0 < t → t ≤ clock → log t % 16 < n) → AreOwned n (history clock log begins ws)
unfolding history
history_owned n zero log begins ws each = tt
history_owned n (suc t) log begins ws each =
    owned_more n (history t log begins ws) (commit_at log begins ws (suc t)) (history_owned n t log begins ws (λ u some low. each u some (omega arith))) (each (suc t) (omega arith) (omega arith))

pub commits_owned : (c : Core) → Sound c → AreOwned c.limits.sessions (history_of c.limits c.words)
commits_owned c sound = history_owned c.limits.sessions c.words.clock c.words.log c.words.begins (writes_of c.limits c.words) (λ t some low. (sound.times.named t some low).session)

-- ---- the commits of all sessions are as many as there are

-- how many commits are of the session k, and of those after it, one for each element of the list
abbrev shares : {X : Type 0} → List Commit → ℕ → List X → ℕ
shares commits k [] = 0
shares commits k (x ∷ xs) = length (commits_of k commits) + shares commits (k + 1) xs

shares_none : {X : Type 0} (k : ℕ) (xs : List X) → shares [] k xs ≡ 0
shares_none k [] = refl
shares_none k (x ∷ xs) = let h = shares_none (k + 1) xs in omega arith

module _ (one : Commit) (commits : List Commit) where
  own_share : (k : ℕ) → eqb one.session k ≡ true → length (commits_of k (one ∷ commits)) ≡ 1 + length (commits_of k commits)
  own_share k is = let e : length (commits_of k (one ∷ commits)) ≡ length (one ∷ commits_of k commits) = ap (λ (b : Bool). length (cond b (one ∷ commits_of k commits) (commits_of k commits))) is in omega arith

  other_share : (k : ℕ) → eqb one.session k ≡ false → length (commits_of k (one ∷ commits)) ≡ length (commits_of k commits)
  other_share k is = ap (λ (b : Bool). length (cond b (one ∷ commits_of k commits) (commits_of k commits))) is

  module _ {X : Type 0} where
    before_all : (k : ℕ) (xs : List X) → one.session < k → shares (one ∷ commits) k xs ≡ shares commits k xs
    before_all k [] low = refl
    before_all k (x ∷ xs) low = let h = before_all (k + 1) xs (omega arith) in let e = other_share k (ne_eqb one.session k (λ is. absurd (omega arith))) in omega arith

    among : (k : ℕ) (xs : List X) → k ≤ one.session → one.session < k + length xs → shares (one ∷ commits) k xs ≡ 1 + shares commits k xs
    among k [] low high = absurd (omega arith)
    among k (x ∷ xs) low high = by_test (eqb one.session k) refl (λ above. among (k + 1) xs above (omega arith))
      where
        by_test : (b : Bool) → eqb one.session k ≡ b → (k + 1 ≤ one.session → shares (one ∷ commits) (k + 1) xs ≡ 1 + shares commits (k + 1) xs) → shares (one ∷ commits) k (x ∷ xs) ≡ 1 + shares commits k (x ∷ xs)
        by_test true is rest = let same = eqb-true one.session k is in let e = own_share k is in let h = before_all (k + 1) xs (omega arith) in omega arith
        by_test false is rest = let other = eqb-false one.session k is in let h = rest (omega arith) in let e = other_share k is in omega arith

all_shares : {X : Type 0} (xs : List X) (commits : List Commit) → AreOwned (length xs) commits → shares commits 0 xs ≡ length commits
all_shares xs [] all = shares_none 0 xs
all_shares xs (one ∷ commits) all = let a = among one commits 0 xs (omega arith) (let low = all.0 in omega arith) in let h = all_shares xs commits all.1 in omega arith

sum_shares : {X : Type 0} (f : X → ℕ) (commits : List Commit) (k : ℕ) (xs : List X) → ((i : ℕ) (d : X) → i < length xs → f (get_or xs i d) ≡ length (commits_of (k + i) commits)) → sum_by f xs ≡ shares commits k xs
sum_shares f commits k [] each = refl
sum_shares f commits k (x ∷ xs) each =
    let first : f x ≡ length (commits_of k commits) = subst (λ (n : ℕ). f x ≡ length (commits_of n commits)) (omega arith) (each 0 x (omega arith)) in
    let rest = sum_shares f commits (k + 1) xs (λ i d low. ap f (get_or_after_one (x ∷ xs) i d) ∙ subst (λ (n : ℕ). f (get_or (x ∷ xs) (1 + i) d) ≡ length (commits_of n commits)) (omega arith) (each (1 + i) d (omega arith))) in
    let e = sum_by-cons f x xs in omega arith

-- where each session has the commits of its place in the list, they are all together
pub all_are_own : {X : Type 0} (f : X → List Commit) (commits : List Commit) (xs : List X) → AreOwned (length xs) commits → ((s : ℕ) (d : X) → s < length xs → commits_of s commits ≡ f (get_or xs s d))
    → length commits ≡ sum_by (λ x. length (f x)) xs
all_are_own f commits xs owned each = sym (sum_shares (λ x. length (f x)) commits 0 xs (λ i d low. let is : i ≡ 0 + i = omega arith in
    subst (λ (k : ℕ). length (f (get_or xs i d)) ≡ length (commits_of k commits)) is (ap length (sym (each i d low)))) ∙ all_shares xs commits owned)
