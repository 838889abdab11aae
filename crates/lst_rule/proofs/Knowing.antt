-- What a view says of each state that it allows.
use Rattle.std.proofs.Common.{◌≡◌, ◌≢◌, ℕ, ◌^◌, ◌-◌, length, ◌<◌, List, true, sym, subst, ap, ◌∙◌, arith, Contains}
use mathlib.Core.Logic.{dite}
use native.Mathlib.Decide.{ℕ_discrete}
use Rattle.lst_layout.specs.Words.{Words, shown}
use Rattle.lst_model.specs.Histories.{Extends}
use Rattle.lst_core_state.specs.declared.known.Known.{Known}
use Rattle.lst_core_state.specs.declared.facts.Fact.{Fact}
use Rattle.lst_core_state.specs.Facts.{IsFact}
use Rattle.lst_core_state.specs.State.{Core, rank, history_of, writes_of}
use Rattle.lst_core_state.proofs.Histories.{length-history}
use Rattle.lst_core_state.proofs.Room.{clock_low}
use Rattle.lst_core_state.proofs.Bounds.{rows_few}
use Rattle.lst_core_state.specs.State.{state_over}
use Rattle.lst_rule.specs.declared.view.View.{View}
use Rattle.lst_rule.specs.Rule.{knows, hosts, Allowed}
use Rattle.lst_rule.proofs.Afters.{known_own, known_merger}

module _ (v : View) (words : List ℕ) (known : ℕ → Known) (merger : Known) (a : Allowed v words known merger) (s : ℕ) (hosted : hosts v s ≡ true) where
  abbrev c : Core
  c = state_over v.limits words known merger

  -- what a session knows that the view hosts
  pub knows_own : s ≢ v.limits.sessions → knows v s ≡ known s
  knows_own ne = a.knew s hosted ∙ known_own c s ne

  pub knows_merger : s ≡ v.limits.sessions → knows v s ≡ merger
  knows_merger is = a.knew s hosted ∙ known_merger c s is

  pub low_own : s ≢ v.limits.sessions → s < v.limits.sessions
  low_own ne = let h = a.low s hosted in omega arith

  -- a fact of the view is so
  pub is_fact : (f : Fact) → Contains (knows v s).facts f → IsFact v.limits (shown v.limits words) f
  is_fact f h = dite (ℕ_discrete s v.limits.sessions)
      (λ is. a.sound.merger_facts f (subst (λ (u : Known). Contains u.facts f) (knows_merger is) h))
      (λ ne. a.sound.facts s (low_own ne) f (subst (λ (u : Known). Contains u.facts f) (knows_own ne) h))

  -- what it has seen is a front of the history
  pub is_seen : Extends (history_of v.limits (shown v.limits words)) (knows v s).seen
  is_seen = dite (ℕ_discrete s v.limits.sessions)
      (λ is. subst (λ (u : Known). Extends (history_of v.limits (shown v.limits words)) u.seen) (sym (knows_merger is)) a.sound.merger_seen)
      (λ ne. subst (λ (u : Known). Extends (history_of v.limits (shown v.limits words)) u.seen) (sym (knows_own ne)) (a.sound.views s (low_own ne)).prefix)

-- the clock is the length of the history, and fits 32 bits
pub clock_is : (v : View) (words : List ℕ) (known : ℕ → Known) (merger : Known) → Allowed v words known merger → let w = shown v.limits words in (length (history_of v.limits w) ≡ w.clock) × (w.clock < 2 ^ 32)
clock_is v words known merger a = let w = shown v.limits words in (
  length-history w.clock w.log w.begins (writes_of v.limits w),
  (let top = clock_low (state_over v.limits words known merger) a.sound in let few = rows_few v.limits a.sound.sized in omega arith),
)

-- a view that knows each word is itself a sound state of the store
pub whole_words : (v : View) (words : List ℕ) (known : ℕ → Known) (merger : Known) → Allowed v words known merger → v.whole ≡ true → Allowed v v.words known merger
whole_words v words known merger a whole = subst (λ (ws : List ℕ). Allowed v ws known merger) (sym (a.whole whole)) a

-- where a view hosts every session, and none of them has the turn, the commit word is 0
pub free_turn : (v : View) (words : List ℕ) (known : ℕ → Known) (merger : Known) → Allowed v words known merger → ((t : ℕ) → t < v.limits.sessions → (hosts v t ≡ true) × (rank (knows v t).turn ≡ 0)) → (shown v.limits words).turn ≡ 0
free_turn v words known merger a away = let w : Words = shown v.limits words in let low = a.sound.times.low in dite (ℕ_discrete w.turn 0) (λ e. e)
    (λ ne. let t : ℕ = w.turn - 1 in let in_range : t < v.limits.sessions = omega arith in let h = (a.sound.each t in_range).turn_in (omega arith) in
    let none = (away t in_range).1 in let same = ap (λ (u : Known). rank u.turn) (knows_own v words known merger a t (away t in_range).0 (λ f. omega arith)) in absurd (omega arith))
