-- A step on words and numbers is a step of each state that is held.
use Rattle.std.proofs.Common.{◌≡◌, ◌≢◌, ℕ, zero, suc, ◌+◌, ◌<◌, ◌≤◌, List, [], ◌∷◌, Bool, cond, length, get_or, set, refl, sym, subst, ap, ◌∙◌, arith, get_or-set_same, get_or-set_other, eq-eqb, ne_eqb}
use mathlib.Core.Logic.{dite}
use native.Mathlib.Decide.{ℕ_discrete}
use Rattle.lst_layout.specs.declared.limits.Limits.{Limits}
use Rattle.lst_layout.specs.declared.place.Place.{Place}
use Rattle.lst_layout.specs.Areas.{words_of}
use Rattle.lst_layout.specs.Addresses as layout
use Rattle.lst_layout.specs.Addresses.{address, place_of}
use Rattle.lst_layout.specs.Words.{Words, shown, word_at, with_word, IsShown}
use Rattle.lst_layout.proofs.Places.{at}
use Rattle.lst_layout.proofs.Shown.{areas_are_shown}
use Rattle.lst_core_state.specs.declared.events.Event.{Event}
use Rattle.lst_core_state.specs.declared.events.Event.TheVariants.{Look, Begin, Take, Log, State, Clock, Give, Close, DrawRecord, StoreKey, Claim, Latch, DrawTail, StoreCell, Install, Release, Stamp, Post}
use Rattle.lst_core_state.specs.declared.known.Known.{Known}
use Rattle.lst_core_state.specs.State.{Core, newcomer}
use Rattle.lst_core_state.specs.Step as step
use Rattle.lst_core_state.specs.Step.{session_of, known_of, Enabled, Stands, IsEnabled, words_after, known_after, after_own, after_merger, after}
use Rattle.lst_core_state.specs.Sound.{Sound}
use Rattle.lst_core_state.proofs.Functions.{put_here, put_else}
use Rattle.lst_core_state.proofs.Keeps.{session_low}
use Rattle.lst_core_state.specs.declared.numbers.Numbers.{Numbers}
use Rattle.lst_core_state.specs.Numbers.{numbers_of, place_for, written_of, numbers_after}
use Rattle.lst_core_state.specs.Targets.{time_for}
use Rattle.lst_core.specs.Machine.{Cells, number_at, Holds, IsCore, state_of, stepped}
use Rattle.lst_core_state.proofs.Numbered.{numbers_law, look_numbers}
use Rattle.lst_core_state.proofs.Stepped.{addressed, shows, with_same}

pub any_default : {A : Type 0} (l : List A) (i : ℕ) (d d' : A) → i < length l → get_or l i d ≡ get_or l i d'
any_default [] i d d' h = absurd (omega arith)
any_default (x ∷ xs) zero d d' h = refl
any_default (x ∷ xs) (suc i) d d' h = any_default xs i d d' (omega arith)

-- a state that is held is made of what is held
pub held_is : (m : Cells) (c : Core) → Holds m c → state_of m c.known c.merger ≡ c
held_is m c h = λ i. record { limits = sym h.limits i; words = sym h.words i; known = c.known; merger = c.merger }

module _ (m : Cells) (wide : length m.words ≡ words_of m.limits) (all : length m.numbers ≡ m.limits.sessions + 1) (known : ℕ → Known) (merger : Known) (sound : Sound (state_of m known merger))
    (told : (s : ℕ) → s ≤ m.limits.sessions → numbers_of (known_of (state_of m known merger) s) ≡ number_at m s) (e : Event) (within : step.IsWithin m.limits e) where
  abbrev L : Limits
  L = m.limits

  abbrev W : Words
  W = shown m.limits m.words

  abbrev c : Core
  c = state_of m known merger

  abbrev s : ℕ
  s = session_of e

  abbrev v : Known
  v = known_of c s

  areas : IsShown L m.words
  areas = areas_are_shown L m.words wide

  pub session_few : s ≤ L.sessions
  session_few = dite (ℕ_discrete s L.sessions) (λ e. omega arith) (λ ne. let h = session_low L e within ne in omega arith)

  mine : numbers_of v ≡ number_at m s
  mine = told s session_few

  -- the words and numbers after the step, as the step on words and numbers has them
  abbrev Next : Numbers → Cells
  Next n = let a : ℕ = address L (place_for L n e) in record { limits = L; words = set m.words a (written_of L n (time_for L W e) e (get_or m.words a 0)); numbers = set m.numbers s (numbers_after L e (get_or m.words a 0) n) }

  module _ (d : Core) (v' : Known) (is_within : layout.IsWithin L (place_for L (numbers_of v) e))
      (words' : with_word W (place_for L (numbers_of v) e) (written_of L (numbers_of v) (time_for L W e) e (word_at W (place_for L (numbers_of v) e))) ≡ d.words)
      (numbers' : numbers_of v' ≡ numbers_after L e (word_at W (place_for L (numbers_of v) e)) (numbers_of v))
      (limits' : d.limits ≡ L) (here : known_of d s ≡ v') (there : (j : ℕ) → j ≤ L.sessions → j ≢ s → known_of d j ≡ known_of c j) where
    abbrev p : Place
    p = place_for L (numbers_of v) e

    found : get_or m.words (address L p) 0 ≡ word_at W p
    found = sym (areas.found p is_within)

    held_next : Holds (Next (numbers_of v)) d
    held_next = let y : ℕ = written_of L (numbers_of v) (time_for L W e) e (get_or m.words (address L p) 0) in record {
      limits = limits';
      words = sym words' ∙ ((λ i. with_word W p (written_of L (numbers_of v) (time_for L W e) e (sym found i))) ∙ sym (areas.changed p y is_within));
      numbers = λ j low. dite (ℕ_discrete j s)
          (λ f. subst (λ (k : ℕ). numbers_of (known_of d k) ≡ number_at (Next (numbers_of v)) k) (sym f)
          (ap numbers_of here ∙ (numbers' ∙ ((λ i. numbers_after L e (sym found i) (numbers_of v)) ∙ sym (get_or-set_same m.numbers s (numbers_after L e (get_or m.words (address L p) 0) (numbers_of v)) (numbers_of (newcomer L)) (let g = session_few in omega arith))))))
          (λ ne. ap numbers_of (there j low ne) ∙ (told j low ∙ sym (get_or-set_other m.numbers s j (numbers_after L e (get_or m.words (address L p) 0) (numbers_of v)) (numbers_of (newcomer L)) ne)));
    }

    pub held_stepped : Holds (stepped m (time_for L W e) e) d
    held_stepped = subst (λ (n : Numbers). Holds (Next n) d) mine held_next

  own_known : s ≢ L.sessions → v ≡ known s
  own_known ne = ap (λ (b : Bool). cond b merger (known s)) (ne_eqb s L.sessions ne)

  merger_known : s ≡ L.sessions → v ≡ merger
  merger_known is = ap (λ (b : Bool). cond b merger (known s)) (eq-eqb s L.sessions is)

  own_steps : s ≢ L.sessions → IsEnabled c e → Holds (stepped m (time_for L W e) e) (after_own c e)
  own_steps ne ok = let low = session_low L e within ne in let is : v ≡ known s = own_known ne in let able : Enabled L (known s) e = subst (λ (u : Known). Enabled L u e) is ok.0 in
      held_stepped (after_own c e) (known_after L W (known s) e)
      (subst (λ (u : Known). layout.IsWithin L (place_for L (numbers_of u) e)) (sym is) (addressed c sound e low within able))
      (subst (λ (u : Known). with_word W (place_for L (numbers_of u) e) (written_of L (numbers_of u) (time_for L W e) e (word_at W (place_for L (numbers_of u) e))) ≡ words_after L W (known s) e) (sym is) (shows c sound e low within able))
      (subst (λ (u : Known). numbers_of (known_after L W (known s) e) ≡ numbers_after L e (word_at W (place_for L (numbers_of u) e)) (numbers_of u)) (sym is) (numbers_law L sound.sized W (known s) (sound.counters s low) e within (addressed c sound e low within able)))
      refl
      (ap (λ (b : Bool). cond b merger ((after_own c e).known s)) (ne_eqb s L.sessions ne) ∙ put_here known s (known_after L W (known s) e))
      (λ j h other. dite (ℕ_discrete j L.sessions)
      (λ f. ap (λ (b : Bool). cond b merger ((after_own c e).known j)) (eq-eqb j L.sessions f) ∙ sym (ap (λ (b : Bool). cond b merger (known j)) (eq-eqb j L.sessions f)))
      (λ d. ap (λ (b : Bool). cond b merger ((after_own c e).known j)) (ne_eqb j L.sessions d) ∙ (put_else known s (known_after L W (known s) e) j other ∙ sym (ap (λ (b : Bool). cond b merger (known j)) (ne_eqb j L.sessions d)))))

  abbrev Merges : Event → Type 0
  Merges x = (layout.IsWithin L (place_for L (numbers_of merger) x))
      × (with_word W (place_for L (numbers_of merger) x) (written_of L (numbers_of merger) (time_for L W x) x (word_at W (place_for L (numbers_of merger) x))) ≡ W)
      × (numbers_of (known_after L W merger x) ≡ numbers_after L x (word_at W (place_for L (numbers_of merger) x)) (numbers_of merger))

  merges : (x : Event) → step.IsWithin L x → session_of x ≡ L.sessions → Merges x
  merges (Look j a) inside is = let p = (at L a sound.sized inside.1).within in (p, with_same W (place_of L a), look_numbers L sound.sized W merger sound.merger_counters (place_of L a) p)
  merges (Begin j b r) inside is = absurd (let h : j < L.sessions = inside in omega arith)
  merges (Take j) inside is = absurd (let h : j < L.sessions = inside in omega arith)
  merges (Log j) inside is = absurd (let h : j < L.sessions = inside in omega arith)
  merges (State j) inside is = absurd (let h : j < L.sessions = inside in omega arith)
  merges (Clock j) inside is = absurd (let h : j < L.sessions = inside in omega arith)
  merges (Give j) inside is = absurd (let h : j < L.sessions = inside in omega arith)
  merges (Close j) inside is = absurd (let h : j < L.sessions = inside in omega arith)
  merges (DrawRecord j) inside is = absurd (let h : j < L.sessions = inside in omega arith)
  merges (StoreKey j k) inside is = absurd (let h : j < L.sessions = inside in omega arith)
  merges (Claim j q) inside is = absurd (let h = inside.0 in omega arith)
  merges (Latch j r) inside is = absurd (let h = inside.0 in omega arith)
  merges (DrawTail j range) inside is = absurd (let h = inside.0 in omega arith)
  merges (StoreCell j p x) inside is = absurd (let h = inside.0 in omega arith)
  merges (Install j) inside is = absurd (let h : j < L.sessions = inside in omega arith)
  merges (Release j) inside is = absurd (let h : j < L.sessions = inside in omega arith)
  merges (Stamp j range n) inside is = absurd (let h = inside.0 in omega arith)
  merges (Post j column q) inside is = absurd (let h = inside.0 in omega arith)

  merger_steps : s ≡ L.sessions → Holds (stepped m (time_for L W e) e) (after_merger c e)
  merger_steps is = let k : v ≡ merger = merger_known is in let q : Merges e = merges e within is in
      held_stepped (after_merger c e) (known_after L W merger e)
      (subst (λ (u : Known). layout.IsWithin L (place_for L (numbers_of u) e)) (sym k) q.0)
      (subst (λ (u : Known). with_word W (place_for L (numbers_of u) e) (written_of L (numbers_of u) (time_for L W e) e (word_at W (place_for L (numbers_of u) e))) ≡ W) (sym k) q.1)
      (subst (λ (u : Known). numbers_of (known_after L W merger e) ≡ numbers_after L e (word_at W (place_for L (numbers_of u) e)) (numbers_of u)) (sym k) q.2)
      refl
      (ap (λ (b : Bool). cond b (known_after L W merger e) (known s)) (eq-eqb s L.sessions is))
      (λ j h other. let d : j ≢ L.sessions = λ f. other (f ∙ sym is) in ap (λ (b : Bool). cond b (known_after L W merger e) (known j)) (ne_eqb j L.sessions d) ∙ sym (ap (λ (b : Bool). cond b merger (known j)) (ne_eqb j L.sessions d)))

  steps_made : IsEnabled c e → Holds (stepped m (time_for L W e) e) (after c e)
  steps_made ok = dite (ℕ_discrete s L.sessions)
      (λ is. subst (λ (b : Bool). Holds (stepped m (time_for L W e) e) (cond b (after_merger c e) (after_own c e))) (sym (eq-eqb s L.sessions is)) (merger_steps is))
      (λ ne. subst (λ (b : Bool). Holds (stepped m (time_for L W e) e) (cond b (after_merger c e) (after_own c e))) (sym (ne_eqb s L.sessions ne)) (own_steps ne ok))

  -- the event's word is one of the store's
  place_within : Enabled L v e → layout.IsWithin L (place_for L (numbers_of v) e)
  place_within ok = dite (ℕ_discrete s L.sessions)
      (λ is. subst (λ (u : Known). layout.IsWithin L (place_for L (numbers_of u) e)) (sym (merger_known is)) (merges e within is).0)
      (λ ne. let is : v ≡ known s = own_known ne in subst (λ (u : Known). layout.IsWithin L (place_for L (numbers_of u) e)) (sym is) (addressed c sound e (session_low L e within ne) within (subst (λ (u : Known). Enabled L u e) is ok)))

-- ---- of any state that is held

module _ (m : Cells) (is : IsCore m) (c : Core) (holds : Holds m c) (sound : Sound c) (e : Event) (within : step.IsWithin m.limits e) where
  abbrev made : Core
  made = state_of m c.known c.merger

  made_sound : Sound made
  made_sound = subst Sound (sym (held_is m c holds)) sound

  made_told : (s : ℕ) → s ≤ m.limits.sessions → numbers_of (known_of made s) ≡ number_at m s
  made_told = (subst (Holds m) (sym (held_is m c holds)) holds).numbers

  pub step_holds : IsEnabled c e → Holds (stepped m (time_for m.limits (shown m.limits m.words) e) e) (after c e)
  step_holds ok = subst (λ (x : Core). Holds (stepped m (time_for m.limits (shown m.limits m.words) e) e) (after x e)) (held_is m c holds)
      (steps_made m is.wide is.all c.known c.merger made_sound made_told e within (subst (λ (x : Core). IsEnabled x e) (sym (held_is m c holds)) ok))

  pub step_within : Enabled c.limits (known_of c (session_of e)) e → layout.IsWithin m.limits (place_for m.limits (number_at m (session_of e)) e)
  step_within ok = subst (λ (n : Numbers). layout.IsWithin m.limits (place_for m.limits n e)) (made_told (session_of e) (session_few m is.wide is.all c.known c.merger made_sound made_told e within))
      (place_within m is.wide is.all c.known c.merger made_sound made_told e within (subst (λ (x : Core). Enabled x.limits (known_of x (session_of e)) e) (sym (held_is m c holds)) ok))
