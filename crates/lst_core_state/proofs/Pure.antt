-- What a session has seen decides what is visible to it, for good.
use Rattle.std.proofs.Common.{◌≡◌, ◌⊎◌, ℕ, zero, suc, ◌+◌, ◌*◌, ◌/◌, ◌%◌, ◌<◌, ◌≤◌, List, [], ◌∷◌, ◌++◌, true, take, sym, subst, arith, inl, inr, ⊎_elim}
use mathlib.Core.Logic.{dite}
use native.Mathlib.Decide.{ℕ_discrete}
use Rattle.lst_core_state.specs.Lists.{is_until}
use Rattle.lst_core_state.specs.State.{Words, Core, entry, writes_of, history, commit_at}
use Rattle.lst_model.specs.declared.commits.Commit.{Commit}
use Rattle.lst_core_state.specs.declared.known.Known.{Known}
use Rattle.lst_core_state.specs.Laws.{Names}
use Rattle.lst_core_state.specs.Sound.{Sound}
use Rattle.lst_core_state.proofs.Sights.{until_says, until_holds}
use Rattle.lst_core_state.proofs.Sightings.{seen_front, begin_low}

names_front : (xs ys : List Commit) (s n : ℕ) → Names xs s n → Names (xs ++ ys) s n
names_front [] ys s n i = absurd i
names_front (x ∷ xs) ys s n (inl e) = inl e
names_front (x ∷ xs) ys s n (inr i) = inr (names_front xs ys s n i)

names_last : (xs : List Commit) (c : Commit) (s n : ℕ) → c.session ≡ s → c.number ≡ n → Names (xs ++ c ∷ []) s n
names_last [] c s n e f = inl (e, f)
names_last (x ∷ xs) c s n e f = inr (names_last xs c s n e f)

names_cases : (xs : List Commit) (c : Commit) (s n : ℕ) → Names (xs ++ c ∷ []) s n → Names xs s n ⊎ ((c.session ≡ s) × (c.number ≡ n))
names_cases [] c s n (inl e) = inr e
names_cases [] c s n (inr i) = absurd i
names_cases (x ∷ xs) c s n (inl e) = inl (inl e)
names_cases (x ∷ xs) c s n (inr i) = ⊎_elim (λ (j : Names xs s n). inl (inr j)) (λ (j : (c.session ≡ s) × (c.number ≡ n)). inr j) (names_cases xs c s n i)

module _ (c : Core) (sound : Sound c) where
  abbrev w : Words
  w = c.words

  -- a transaction is in the first b commits exactly where its state word says a time of at most b
  pub names_until : (b x : ℕ) → b ≤ w.clock → Names (history b w.log w.begins (writes_of c.limits w)) (x % 16) (x / 16) → is_until b (entry w.states x) ≡ true
  unfolding history
  names_until zero x high i = absurd i
  names_until (suc b) x high i = ⊎_elim
      (λ (j : Names (history b w.log w.begins (writes_of c.limits w)) (x % 16) (x / 16)). let q = until_says b (entry w.states x) (names_until b x (omega arith) j) in until_holds (suc b) (entry w.states x) q.0 (let h = q.1 in omega arith))
      (λ (j : (w.log (suc b) % 16 ≡ x % 16) × (w.log (suc b) / 16 ≡ x / 16)). let n = (sound.times.named (suc b) (omega arith) high).state in let e : entry w.states (w.log (suc b)) ≡ entry w.states x = (λ i. w.states (j.0 i) (j.1 i)) in until_holds (suc b) (entry w.states x) (omega arith) (omega arith))
      (names_cases (history b w.log w.begins (writes_of c.limits w)) (commit_at w.log w.begins (writes_of c.limits w) (suc b)) (x % 16) (x / 16) i)

  pub until_names : (b x : ℕ) → b ≤ w.clock → x % 16 < c.limits.sessions → is_until b (entry w.states x) ≡ true → Names (history b w.log w.begins (writes_of c.limits w)) (x % 16) (x / 16)
  unfolding history
  until_names zero x high low e = let q = until_says 0 (entry w.states x) e in let h = q.0 in let g = q.1 in absurd (omega arith)
  until_names (suc b) x high low e = let few = sound.sized.sessions.1 in let q = until_says (suc b) (entry w.states x) e in let some = q.0 in let most = q.1 in dite (ℕ_discrete (entry w.states x) (suc b + 1))
      (λ f. let named : w.log (suc b) ≡ 16 * (x / 16) + x % 16 = sound.times.found (x % 16) (x / 16) (suc b) low (omega arith) high f in
      names_last (history b w.log w.begins (writes_of c.limits w)) (commit_at w.log w.begins (writes_of c.limits w) (suc b)) (x % 16) (x / 16) (omega arith) (omega arith))
      (λ ne. names_front (history b w.log w.begins (writes_of c.limits w)) (commit_at w.log w.begins (writes_of c.limits w) (suc b) ∷ []) (x % 16) (x / 16) (until_names b x (omega arith) low (until_holds b (entry w.states x) some (omega arith))))

  module _ (s : ℕ) (in_range : s < c.limits.sessions) (is_on : (c.known s).is_open ≡ true) where
    abbrev v : Known
    v = c.known s

    -- PURE VISIBILITY: a version is committed at most at the begin exactly where what was seen up to the begin names its writer
    pub visible_seen : (x : ℕ) → Names (take v.begin v.seen) (x % 16) (x / 16) → is_until v.begin (entry w.states x) ≡ true
    visible_seen x i = names_until v.begin x (begin_low c sound s in_range is_on) (subst (λ (l : List Commit). Names l (x % 16) (x / 16)) (seen_front c sound s in_range is_on) i)

    pub seen_visible : (x : ℕ) → x % 16 < c.limits.sessions → is_until v.begin (entry w.states x) ≡ true → Names (take v.begin v.seen) (x % 16) (x / 16)
    seen_visible x low e = subst (λ (l : List Commit). Names l (x % 16) (x / 16)) (sym (seen_front c sound s in_range is_on)) (until_names v.begin x (begin_low c sound s in_range is_on) low e)
