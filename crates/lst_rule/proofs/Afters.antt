-- The state after a step, of a session or of the merger.
use Rattle.std.proofs.Common.{◌≡◌, ◌≢◌, ℕ, ◌<◌, List, Bool, cond, refl, sym, subst, ap, ◌∙◌, arith, eq-eqb, ne_eqb}
use mathlib.Core.Logic.{dite}
use native.Mathlib.Decide.{ℕ_discrete}
use Rattle.lst_layout.specs.declared.limits.Limits.{Limits}
use Rattle.lst_model.specs.declared.commits.Commit.{Commit}
use Rattle.lst_model.specs.Histories.{Extends}
use Rattle.lst_core_state.specs.declared.known.Known.{Known}
use Rattle.lst_core_state.specs.declared.events.Event.{Event}
use Rattle.lst_core_state.specs.declared.facts.Fact.{Fact}
use Rattle.lst_core_state.specs.declared.events.Event.TheVariants.{Look, Begin, Take, Log, State, Clock, Give, Close, DrawRecord, StoreKey, Claim, Latch, DrawTail, StoreCell, Install, Release, Stamp, Post}
use Rattle.lst_core_state.specs.State.{Words, Core, history_of}
use Rattle.lst_core_state.specs.Step.{session_of, known_of, IsWithin, IsEnabled, words_after, known_after, after_own, after_merger, after}
use Rattle.lst_core_state.specs.Facts.{IsFact}
use Rattle.lst_core_state.specs.Sound.{Sound}
use Rattle.lst_core_state.specs.Laws.{published}
use Rattle.lst_core_state.proofs.Functions.{put_here, put_else}
use Rattle.lst_core_state.proofs.Histories.{starts_more}
use Rattle.lst_core_state.proofs.Statements.{steps_are_sound}

-- the merger changes no word
pub merger_words : (l : Limits) (w : Words) (u : Known) (e : Event) → IsWithin l e → session_of e ≡ l.sessions → words_after l w u e ≡ w
merger_words l w u (Look s a) inside is = refl
merger_words l w u (Begin s b r) inside is = absurd (let h : s < l.sessions = inside in omega arith)
merger_words l w u (Take s) inside is = absurd (let h : s < l.sessions = inside in omega arith)
merger_words l w u (Log s) inside is = absurd (let h : s < l.sessions = inside in omega arith)
merger_words l w u (State s) inside is = absurd (let h : s < l.sessions = inside in omega arith)
merger_words l w u (Clock s) inside is = absurd (let h : s < l.sessions = inside in omega arith)
merger_words l w u (Give s) inside is = absurd (let h : s < l.sessions = inside in omega arith)
merger_words l w u (Close s) inside is = absurd (let h : s < l.sessions = inside in omega arith)
merger_words l w u (DrawRecord s) inside is = absurd (let h : s < l.sessions = inside in omega arith)
merger_words l w u (StoreKey s k) inside is = absurd (let h : s < l.sessions = inside in omega arith)
merger_words l w u (Claim s q) inside is = absurd (let h = inside.0 in omega arith)
merger_words l w u (Latch s r) inside is = absurd (let h = inside.0 in omega arith)
merger_words l w u (DrawTail s range) inside is = absurd (let h = inside.0 in omega arith)
merger_words l w u (StoreCell s p x) inside is = absurd (let h = inside.0 in omega arith)
merger_words l w u (Install s) inside is = absurd (let h : s < l.sessions = inside in omega arith)
merger_words l w u (Release s) inside is = absurd (let h : s < l.sessions = inside in omega arith)
merger_words l w u (Stamp s range n) inside is = absurd (let h = inside.0 in omega arith)
merger_words l w u (Post s c q) inside is = absurd (let h = inside.0 in omega arith)

-- who knows what
pub known_own : (c : Core) (j : ℕ) → j ≢ c.limits.sessions → known_of c j ≡ c.known j
known_own c j ne = ap (λ (b : Bool). cond b c.merger (c.known j)) (ne_eqb j c.limits.sessions ne)

pub known_merger : (c : Core) (j : ℕ) → j ≡ c.limits.sessions → known_of c j ≡ c.merger
known_merger c j is = ap (λ (b : Bool). cond b c.merger (c.known j)) (eq-eqb j c.limits.sessions is)

module _ (c : Core) (e : Event) where
  abbrev k : ℕ
  k = session_of e

  by_merger : k ≡ c.limits.sessions → after c e ≡ after_merger c e
  by_merger is = ap (λ (b : Bool). cond b (after_merger c e) (after_own c e)) (eq-eqb k c.limits.sessions is)

  by_own : k ≢ c.limits.sessions → after c e ≡ after_own c e
  by_own ne = ap (λ (b : Bool). cond b (after_merger c e) (after_own c e)) (ne_eqb k c.limits.sessions ne)

  pub after_limits : (after c e).limits ≡ c.limits
  after_limits = dite (ℕ_discrete k c.limits.sessions) (λ is. ap (λ (d : Core). d.limits) (by_merger is)) (λ ne. ap (λ (d : Core). d.limits) (by_own ne))

  pub after_words : IsWithin c.limits e → (after c e).words ≡ words_after c.limits c.words (known_of c k) e
  after_words within = dite (ℕ_discrete k c.limits.sessions)
      (λ is. ap (λ (d : Core). d.words) (by_merger is) ∙ sym (merger_words c.limits c.words (known_of c k) e within is))
      (λ ne. ap (λ (d : Core). d.words) (by_own ne) ∙ ap (λ (u : Known). words_after c.limits c.words u e) (sym (known_own c k ne)))

  pub after_here : known_of (after c e) k ≡ known_after c.limits c.words (known_of c k) e
  after_here = dite (ℕ_discrete k c.limits.sessions)
      (λ is. ap (λ (d : Core). known_of d k) (by_merger is) ∙ (known_merger (after_merger c e) k is ∙ ap (λ (u : Known). known_after c.limits c.words u e) (sym (known_merger c k is))))
      (λ ne. ap (λ (d : Core). known_of d k) (by_own ne) ∙ (known_own (after_own c e) k ne ∙ (put_here c.known k (known_after c.limits c.words (c.known k) e) ∙ ap (λ (u : Known). known_after c.limits c.words u e) (sym (known_own c k ne)))))

  pub after_else : (j : ℕ) → j ≢ k → known_of (after c e) j ≡ known_of c j
  after_else j other = dite (ℕ_discrete k c.limits.sessions)
      (λ is. let d : j ≢ c.limits.sessions = λ f. other (f ∙ sym is) in ap (λ (d : Core). known_of d j) (by_merger is) ∙ (known_own (after_merger c e) j d ∙ sym (known_own c j d)))
      (λ ne. ap (λ (d : Core). known_of d j) (by_own ne) ∙ dite (ℕ_discrete j c.limits.sessions)
      (λ f. known_merger (after_own c e) j f ∙ sym (known_merger c j f))
      (λ d. known_own (after_own c e) j d ∙ (put_else c.known k (known_after c.limits c.words (c.known k) e) j other ∙ sym (known_own c j d))))

  -- what was a front of the history stays one
  pub after_history : Sound c → IsWithin c.limits e → IsEnabled c e → (front : List Commit) → Extends (history_of c.limits c.words) front → Extends (history_of (after c e).limits (after c e).words) front
  after_history sound within able front h = subst (λ (all : List Commit). Extends all front) (sym (steps_are_sound c sound e within able).history) (starts_more (history_of c.limits c.words) front (published c e) h)

  -- what was a fact stays one
  pub after_facts : Sound c → IsWithin c.limits e → IsEnabled c e → (f : Fact) → IsFact c.limits c.words f → IsFact (after c e).limits (after c e).words f
  after_facts sound within able f h = subst (λ (l : Limits). IsFact l (after c e).words f) (sym after_limits) ((steps_are_sound c sound e within able).facts f h)
