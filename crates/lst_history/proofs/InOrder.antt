-- The writes of commits in order: a stable sort by key gives what joining one by one gives.
use Rattle.std.proofs.Common.{◌≡◌, ℕ, zero, suc, ◌+◌, ◌<◌, ◌≤◌, List, [], ◌∷◌, ◌++◌, Bool, true, false, cond, length, map, refl, ap, ◌∙◌, arith, get_or, set}
use Rattle.std.proofs.lemmas.List.{map-append}
use Rattle.std.proofs.lemmas.List.Sums.{fold-append}
use Rattle.lst_layout.specs.declared.limits.Limits.{Limits}
use Rattle.lst_model.specs.declared.acts.Write.{Write}
use Rattle.lst_model.specs.declared.commits.Commit.{Commit}
use Rattle.lst_model.specs.Histories.{by_key, joined}
use Rattle.lst_core_state.specs.Cells.{tail_count}
use Rattle.lst_core_state.specs.Writes.{writes_by}
use Rattle.lst_core_state.specs.State.{Words, history, history_of, commit_at, is_by, record_in, act_in}
use Rattle.lst_history.specs.Commits.{writes_until, gathered_until, write_at, in_order}

-- ---- in a list of commits

-- the first n commits are in order
abbrev pub ordered_until : ℕ → List Commit → List Commit
ordered_until zero cs = cs
ordered_until (suc n) [] = []
ordered_until (suc n) (c ∷ cs) = in_order c ∷ ordered_until n cs

pub ordered_next : (cs : List Commit) (n : ℕ) (d new : Commit) → n < length cs → new ≡ in_order (get_or (ordered_until n cs) n d) → set (ordered_until n cs) n new ≡ ordered_until (n + 1) cs
ordered_next cs n d new low is = next cs n low is ∙ ap (λ (k : ℕ). ordered_until k cs) (let e : suc n ≡ n + 1 = omega arith in e)
  where
    next : (cs : List Commit) (n : ℕ) → n < length cs → new ≡ in_order (get_or (ordered_until n cs) n d) → set (ordered_until n cs) n new ≡ ordered_until (suc n) cs
    next [] n low is = absurd (omega arith)
    next (c ∷ cs) zero low is = ap (λ (e : Commit). e ∷ cs) is
    next (c ∷ cs) (suc n) low is = ap (λ (l : List Commit). in_order c ∷ l) (next cs n (omega arith) is)

pub ordered_all : (n : ℕ) (cs : List Commit) → length cs ≤ n → ordered_until n cs ≡ map in_order cs
ordered_all zero [] low = refl
ordered_all zero (c ∷ cs) low = absurd (omega arith)
ordered_all (suc n) [] low = refl
ordered_all (suc n) (c ∷ cs) low = ap (λ (l : List Commit). in_order c ∷ l) (ordered_all n cs (omega arith))

-- ---- in the history

history_in_order : (c : ℕ) (log : ℕ → ℕ) (begins : ℕ → ℕ → ℕ) (ws sorted : ℕ → List Write) → ((x : ℕ) → by_key (ws x) ≡ sorted x) → map in_order (history c log begins ws) ≡ history c log begins sorted
unfolding history
history_in_order zero log begins ws sorted same = refl
history_in_order (suc t) log begins ws sorted same = map-append in_order (history t log begins ws) (commit_at log begins ws (suc t) ∷ [])
    ∙ (λ i. history_in_order t log begins ws sorted same i ++ record (commit_at log begins ws (suc t)) { writes = same (log (suc t)) i } ∷ [])

module _ (l : Limits) (w : Words) where
  writes_in_order : (n x : ℕ) → by_key (writes_until l w n x) ≡ writes_by (is_by w.log w.cells x) (λ t. w.keys (record_in l w.cells t)) (act_in l w.cells) n
  writes_in_order zero x = refl
  writes_in_order (suc n) x = step (is_by w.log w.cells x (suc n)) (writes_in_order n x)
    where
      here : List Write
      here = writes_until l w n x

      last : Write
      last = write_at l w (suc n)

      step : (b : Bool) → {joins : List Write} → by_key here ≡ joins → by_key (cond b (here ++ last ∷ []) here) ≡ cond b (joined joins last) joins
      step true is = fold-append joined [] here (last ∷ []) ∙ ap (λ (ws : List Write). joined ws last) is
      step false is = is

  pub gathered_in_order : map in_order (gathered_until l w (tail_count l)) ≡ history_of l w
  gathered_in_order = history_in_order w.clock w.log w.begins (writes_until l w (tail_count l)) _ (writes_in_order (tail_count l))
