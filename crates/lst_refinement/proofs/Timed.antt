-- When a transaction is committed: the time of its commit in the history is that of its state word.
use Rattle.std.proofs.Common.{◌≡◌, ◌≢◌, ℕ, zero, suc, ◌+◌, ◌*◌, ◌/◌, ◌%◌, ◌<◌, ◌≤◌, Bool, true, false, List, length, refl, sym, ap, ◌∙◌, arith, eq-eqb, eqb-true}
use mathlib.Core.Logic.{dite}
use native.Mathlib.Decide.{ℕ_discrete}
use Rattle.std.specs.Prelude.{Some, None, ◌==◌, ◌&&◌}
use Rattle.lst_layout.specs.declared.limits.Limits.{Limits}
use Rattle.lst_model.specs.declared.acts.Write.{Write}
use Rattle.lst_model.specs.declared.commits.Commit.{Commit}
use Rattle.lst_core_state.proofs.Sights.{is_false}
use Rattle.lst_core_state.proofs.Histories.{length-history}
use Rattle.lst_core_state.proofs.Decoded.{both_say}
use Rattle.lst_machine.specs.Writes.{time_of}
use Rattle.lst_machine.proofs.Appending.{or_last, time-append}
use Rattle.lst_core_state.specs.State.{Words, Core, entry, writer_at, state_at, writes_of, history, history_of, commit_at}
use Rattle.lst_refinement.specs.Crews.{IsCrew}

-- the times of a log
module _ (log : ℕ → ℕ) (begins : ℕ → ℕ → ℕ) (ws : ℕ → List Write) (s m : ℕ) where
  abbrev upto : ℕ → List Commit
  upto n = history n log begins ws

  abbrev names : ℕ → Bool
  names t = log t % 16 == s && log t / 16 == m

  time_next : (n : ℕ) → time_of (upto (suc n)) s m ≡ or_last (time_of (upto n) s m) (names (suc n)) (suc n)
  unfolding history
  time_next n = time-append (upto n) (commit_at log begins ws (suc n)) s m ∙ ap (or_last (time_of (upto n) s m) (names (suc n))) (let e : length (upto n) + 1 ≡ suc n = omega (arith, length-history n log begins ws) in e)

  -- a transaction that the log doesn't name has none
  pub time_none : (n : ℕ) → ((t : ℕ) → 0 < t → t ≤ n → names t ≡ false) → time_of (upto n) s m ≡ None
  unfolding history
  time_none zero none = refl
  time_none (suc n) none = time_next n ∙ (λ i. or_last (time_none n (λ t some low. none t some (omega arith)) i) (none (suc n) (omega arith) (omega arith) i) (suc n))

  -- the first time at which it names it is the transaction's
  pub time_some : (n time : ℕ) → 0 < time → time ≤ n → names time ≡ true → ((t : ℕ) → 0 < t → t < time → names t ≡ false) → time_of (upto n) s m ≡ Some time
  time_some zero time some low is before = absurd (omega arith)
  time_some (suc n) time some low is before = time_next n ∙ dite (ℕ_discrete time (suc n))
      (λ e. (λ i. or_last (time_none n (λ t pos below. before t pos (omega arith)) i) ((ap names (sym e) ∙ is) i) (suc n)) ∙ ap Some (sym e))
      (λ ne. ap (λ o. or_last o (names (suc n)) (suc n)) (time_some n time some (omega arith) is before))

-- the transaction that stored the tail t
module _ (c : Core) (crew : IsCrew c) (t : ℕ) (some : 0 < c.words.cells t 0) where
  abbrev l : Limits
  l = c.limits

  abbrev w : Words
  w = c.words

  -- its transaction's name
  abbrev x : ℕ
  x = writer_at w t

  named_other : (u : ℕ) → w.log u ≢ x → (w.log u % 16 == x % 16 && w.log u / 16 == x / 16) ≡ false
  named_other u ne = is_false (w.log u % 16 == x % 16 && w.log u / 16 == x / 16)
      (λ is. let q = both_say (w.log u % 16 == x % 16) (w.log u / 16 == x / 16) is in let a : w.log u % 16 ≡ x % 16 = eqb-true (w.log u % 16) (x % 16) q.0 in let b : w.log u / 16 ≡ x / 16 = eqb-true (w.log u / 16) (x / 16) q.1 in ne (omega arith))

  named_here : (u : ℕ) → w.log u ≡ x → (w.log u % 16 == x % 16 && w.log u / 16 == x / 16) ≡ true
  named_here u e = λ i. eq-eqb (w.log u % 16) (x % 16) (ap (λ (y : ℕ). y % 16) e) i && eq-eqb (w.log u / 16) (x / 16) (ap (λ (y : ℕ). y / 16) e) i

  -- a time that the log names it at is that of its state word
  log_state : (u : ℕ) → 0 < u → u ≤ w.clock → w.log u ≡ x → state_at w t ≡ u + 1
  log_state u pos low e = ap (entry w.states) (sym e) ∙ (crew.sound.times.named u pos low).state

  pub untimed : state_at w t ≡ 0 → time_of (history_of l w) (x % 16) (x / 16) ≡ None
  untimed none = time_none w.log w.begins (writes_of l w) (x % 16) (x / 16) w.clock (λ u pos low. named_other u (λ e. let f = log_state u pos low e in omega arith))

  pub state_low : state_at w t ≤ w.clock + 1
  state_low = let begun = (crew.sound.versions.stored t some).begun in let runs = crew.sound.each (x % 16) begun.0 in let away = (crew.idle (x % 16) begun.0).turn in dite (ℕ_discrete (x / 16) (c.known (x % 16)).number)
      (λ e. let last = runs.settled_last (λ f. omega arith) in let same : state_at w t ≡ w.states (x % 16) (c.known (x % 16)).number = ap (w.states (x % 16)) e in omega arith)
      (λ ne. runs.settled (x / 16) ne)

  pub timed : (time : ℕ) → 0 < time → state_at w t ≡ time + 1 → time_of (history_of l w) (x % 16) (x / 16) ≡ Some time
  timed time pos is = let begun = (crew.sound.versions.stored t some).begun in let low = state_low in
      let named : w.log time ≡ 16 * (x / 16) + x % 16 = crew.sound.times.found (x % 16) (x / 16) time begun.0 pos (omega arith) is in
      time_some w.log w.begins (writes_of l w) (x % 16) (x / 16) w.clock time pos (omega arith) (named_here time (omega arith)) (λ u above below. named_other u (λ e. let f = log_state u above (omega arith) e in omega arith))
