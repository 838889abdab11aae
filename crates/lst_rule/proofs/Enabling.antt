-- What a step does to the words and the numbers, as far as a view tells, and where a seat may make it.
use Rattle.std.proofs.Common.{◌≡◌, ℕ, ◌<◌, List, true, set, sym, subst, ap, ◌∙◌, arith, slice_index}
use mathlib.Core.Logic.{dite}
use native.Mathlib.Decide.{ℕ_discrete}
use Rattle.lst_layout.specs.declared.limits.Limits.{Limits}
use Rattle.lst_layout.specs.declared.place.Place.{Place}
use Rattle.lst_layout.specs.Addresses as layout
use Rattle.lst_layout.specs.Addresses.{address, place_of}
use Rattle.lst_layout.specs.Words.{Words, shown, word_at, with_word}
use Rattle.lst_layout.proofs.Places.{at}
use Rattle.lst_layout.proofs.Shown.{changed, found}
use Rattle.lst_core_state.specs.declared.known.Known.{Known}
use Rattle.lst_core_state.specs.declared.events.Event.{Event}
use Rattle.lst_core_state.specs.declared.events.Event.TheVariants.{Look, Begin, Take, Log, State, Clock, Give, Close, DrawRecord, StoreKey, Claim, Latch, DrawTail, StoreCell, Install, Release, Stamp, Post}
use Rattle.lst_core_state.specs.State.{Core}
use Rattle.lst_core_state.specs.Step.{session_of, known_of, IsWithin, Enabled}
use Rattle.lst_core_state.specs.Sound.{Sound}
use Rattle.lst_core_state.proofs.Keeps.{session_low}
use Rattle.lst_core_state.specs.Numbers.{numbers_of}
use Rattle.lst_core_state.specs.State.{state_over}
use Rattle.lst_core_state.proofs.Numbered.{numbers_law, look_numbers}
use Rattle.lst_core_state.proofs.Stepped as stepped
use Rattle.lst_pages.specs.declared.events.PageEvent.{PageEvent}
use Rattle.lst_pages.specs.declared.events.PageEvent.TheVariants.{Pin, Unpin, LookPage, LookPin, StoreFrame, Swap, Raise}
use Rattle.lst_pages.specs.Step as pages
use Rattle.lst_pages.specs.Known.{known_after_page}
use Rattle.lst_pages.proofs.Tellings.{words_law, stock_law, pin_law}
use Rattle.lst_rule.specs.declared.actions.Action.{Action}
use Rattle.lst_rule.specs.declared.actions.Action.TheVariants as action
use Rattle.lst_rule.specs.declared.view.View.{View}
use Rattle.lst_rule.specs.Actions.{actor, IsActionWithin, ActionEnabled, words_after_action, known_after_action, place_for_action, time_for_action, written_for_action, numbers_after_action, numbers_after_page}
use Rattle.lst_rule.specs.Rule.{knows, hosts, Allowed, Ready}
use Rattle.lst_rule.specs.Learned.{MayStand}
use Rattle.lst_rule.proofs.Afters.{known_own, known_merger}

-- the word of the step is one of the store's; what the step leaves there is the action's; and so are the numbers after it
pub record Steps (l : Limits) (w : Words) (a : Action) (u : Known) (p : Place) : Type 0 where
  pub within : layout.IsWithin l p
  pub stores : with_word w p (written_for_action l (numbers_of u) (time_for_action l w a) a (word_at w p)) ≡ words_after_action l w u a
  pub counts : numbers_of (known_after_action l w u a) ≡ numbers_after_action l a (word_at w p) (numbers_of u)

abbrev StepsOf : Limits → Words → Action → Known → Type 0
StepsOf l w a u = Steps l w a u (place_for_action l (numbers_of u) a)

-- ---- a step on pages

-- the numbers after it
page_counts : (l : Limits) (w : Words) (u : Known) (e : PageEvent) → numbers_of (known_after_page l w u e) ≡ numbers_after_page e (numbers_of u)
page_counts l w u e = let stock = stock_law l w u.pages.stock e in let pin = pin_law l w u.pages.session e in λ i. record (numbers_of u) { pin = pin i; epoch = (stock i).epoch; built = (stock i).built }

pub page_within : (l : Limits) (e : PageEvent) → pages.IsWithin l e → layout.IsWithin l (pages.place_of e)
page_within l (Pin s epoch) is = is
page_within l (Unpin s) is = is
page_within l (LookPage s r c) is = is.1
page_within l (LookPin s) is = is
page_within l (StoreFrame f n x) is = is
page_within l (Swap r c) is = is
page_within l Raise is = is

page_steps : (l : Limits) (w : Words) (e : PageEvent) (u : Known) → pages.IsWithin l e → StepsOf l w (action.Page e) u
page_steps l w e u within = record { within = page_within l e within; stores = words_law w u.pages.stock e; counts = page_counts l w u e }

-- ---- a step of the core

module _ (c : Core) (sound : Sound c) where
  abbrev L : Limits
  L = c.limits

  own_steps : (e : Event) → IsWithin L e → session_of e < L.sessions → Enabled L (c.known (session_of e)) e → StepsOf L c.words (action.Core e) (c.known (session_of e))
  own_steps e within low ok = let p = stepped.addressed c sound e low within ok in record {
    within = p;
    stores = stepped.shows c sound e low within ok;
    counts = numbers_law L sound.sized c.words (c.known (session_of e)) (sound.counters (session_of e) low) e within p;
  }

  merger_steps : (e : Event) → IsWithin L e → session_of e ≡ L.sessions → StepsOf L c.words (action.Core e) c.merger
  merger_steps (Look j a) inside is = let p = (at L a sound.sized inside.1).within in record { within = p; stores = stepped.with_same c.words (place_of L a); counts = look_numbers L sound.sized c.words c.merger sound.merger_counters (place_of L a) p }
  merger_steps (Begin j b r) inside is = absurd (let h : j < L.sessions = inside in omega arith)
  merger_steps (Take j) inside is = absurd (let h : j < L.sessions = inside in omega arith)
  merger_steps (Log j) inside is = absurd (let h : j < L.sessions = inside in omega arith)
  merger_steps (State j) inside is = absurd (let h : j < L.sessions = inside in omega arith)
  merger_steps (Clock j) inside is = absurd (let h : j < L.sessions = inside in omega arith)
  merger_steps (Give j) inside is = absurd (let h : j < L.sessions = inside in omega arith)
  merger_steps (Close j) inside is = absurd (let h : j < L.sessions = inside in omega arith)
  merger_steps (DrawRecord j) inside is = absurd (let h : j < L.sessions = inside in omega arith)
  merger_steps (StoreKey j k) inside is = absurd (let h : j < L.sessions = inside in omega arith)
  merger_steps (Claim j q) inside is = absurd (let h = inside.0 in omega arith)
  merger_steps (Latch j r) inside is = absurd (let h = inside.0 in omega arith)
  merger_steps (DrawTail j range) inside is = absurd (let h = inside.0 in omega arith)
  merger_steps (StoreCell j p x) inside is = absurd (let h = inside.0 in omega arith)
  merger_steps (Install j) inside is = absurd (let h : j < L.sessions = inside in omega arith)
  merger_steps (Release j) inside is = absurd (let h : j < L.sessions = inside in omega arith)
  merger_steps (Stamp j range n) inside is = absurd (let h = inside.0 in omega arith)
  merger_steps (Post j column q) inside is = absurd (let h = inside.0 in omega arith)

  core_steps : (e : Event) → IsWithin L e → Enabled L (known_of c (session_of e)) e → StepsOf L c.words (action.Core e) (known_of c (session_of e))
  core_steps e within ok = dite (ℕ_discrete (session_of e) L.sessions)
      (λ is. subst (StepsOf L c.words (action.Core e)) (sym (known_merger c (session_of e) is)) (merger_steps e within is))
      (λ ne. let same = known_own c (session_of e) ne in subst (StepsOf L c.words (action.Core e)) (sym same) (own_steps e within (session_low L e within ne) (subst (λ (u : Known). Enabled L u e) same ok)))

  -- of either
  pub steps_of : (a : Action) → IsActionWithin L a → ActionEnabled L (known_of c (actor L a)) a → StepsOf L c.words a (known_of c (actor L a))
  steps_of (action.Core e) within ok = core_steps e within ok
  steps_of (action.Page e) within ok = page_steps L c.words e (known_of c (actor L (action.Page e))) within

-- ---- of a state that a view allows

module _ (v : View) (a : Action) (words : List ℕ) (known : ℕ → Known) (merger : Known) (may : Allowed v words known merger) (hosted : hosts v (actor v.limits a) ≡ true) (within : IsActionWithin v.limits a)
    (ok : ActionEnabled v.limits (knows v (actor v.limits a)) a) where
  abbrev w : Words
  w = shown v.limits words

  abbrev u : Known
  u = knows v (actor v.limits a)

  abbrev p : Place
  p = place_for_action v.limits (numbers_of u) a

  abbrev i : ℕ
  i = address v.limits p

  pub allowed_steps : Steps v.limits w a u p
  allowed_steps = let c : Core = state_over v.limits words known merger in let same : u ≡ known_of c (actor v.limits a) = may.knew (actor v.limits a) hosted in
      subst (StepsOf v.limits w a) (sym same) (steps_of c may.sound a within (subst (λ (x : Known). ActionEnabled v.limits x a) same ok))

  pub word_found : word_at w p ≡ slice_index words i
  word_found = found v.limits words may.wide p allowed_steps.within

  pub shows : shown v.limits (set words i (written_for_action v.limits (numbers_of u) (time_for_action v.limits w a) a (slice_index words i))) ≡ words_after_action v.limits w u a
  shows = let g : ℕ → ℕ = written_for_action v.limits (numbers_of u) (time_for_action v.limits w a) a in
      changed v.limits words may.wide p (g (slice_index words i)) allowed_steps.within ∙ ((λ j. with_word w p (g (sym word_found j))) ∙ allowed_steps.stores)

  pub becomes : numbers_of (known_after_action v.limits w u a) ≡ numbers_after_action v.limits a (slice_index words i) (numbers_of u)
  becomes = allowed_steps.counts ∙ (λ j. numbers_after_action v.limits a (word_found j) (numbers_of u))

-- the seat may make the step where it sets the word to what the action makes of what it was
pub ready_at : (v : View) (a : Action) (f : ℕ → ℕ) → hosts v (actor v.limits a) ≡ true → IsActionWithin v.limits a → ActionEnabled v.limits (knows v (actor v.limits a)) a → MayStand v a
    → ((words : List ℕ) (known : ℕ → Known) (merger : Known) → Allowed v words known merger → (x : ℕ) → f x ≡ written_for_action v.limits (numbers_of (knows v (actor v.limits a))) (time_for_action v.limits (shown v.limits words) a) a x)
    → Ready v a (address v.limits (place_for_action v.limits (numbers_of (knows v (actor v.limits a))) a)) f
ready_at v a f hosted within ok stands is = (
  hosted,
  within,
  λ words known merger may. (
    ok,
    stands words known merger may,
    (let j : ℕ = address v.limits (place_for_action v.limits (numbers_of (knows v (actor v.limits a))) a) in ap (λ (x : ℕ). shown v.limits (set words j x)) (is words known merger may (slice_index words j)) ∙ shows v a words known merger may hosted within ok),
  ),
)
