-- Whether the words allow a step, from what the numbers of its session are.
use Rattle.std.proofs.Common.{◌≡◌, ℕ, ◌+◌, ◌-◌, ◌<◌, List, Bool, true, cond, eqb, not, sym, subst, ap, ◌∙◌, arith, ne_eqb, nat_lt, lt-ltb, ltb-true}
use Rattle.std.specs.Prelude.{◌↔◌, IsTrue}
use Rattle.lst_layout.specs.declared.limits.Limits.{Limits}
use Rattle.lst_layout.specs.Words.{Words, shown}
use Rattle.lst_model.specs.declared.acts.Act.{Act}
use Rattle.lst_core_state.specs.Lists.{acts}
use Rattle.lst_core_state.specs.declared.events.Event.{Event}
use Rattle.lst_core_state.specs.declared.events.Event.TheVariants.{Claim, DrawTail, StoreCell, Install, Post}
use Rattle.lst_core_state.specs.declared.known.Known.{Known}
use Rattle.lst_core_state.specs.declared.known.Hold.{Hold}
use Rattle.lst_layout.specs.Areas.{index_positions}
use Rattle.lst_core_state.specs.Index.{Reaches, size}
use Rattle.lst_core_state.specs.State.{Core, FitsAfter, act_in, entry, line, name_of, state_at, sight}
use Rattle.lst_core_state.specs.Step as step
use Rattle.lst_core_state.specs.Postings.{IsPut, IsPostable}
use Rattle.lst_core_state.specs.Step.{session_of, known_of, Stands, IsDrafted}
use Rattle.lst_core_state.specs.Sound.{Sound}
use Rattle.lst_core_state.proofs.Sightings.{judged_sight}
use Rattle.lst_core_state.proofs.Steps.{name_entry}
use Rattle.lst_core_state.specs.declared.numbers.Numbers.{Numbers}
use Rattle.lst_core_state.specs.Numbers.{numbers_of, Allows}
use Rattle.lst_core.specs.Reading.{IsTold, StandsIn, IsHeld, IsWhole}
use Rattle.lst_core_state.specs.State.{state_over}

module _ (l : Limits) (ws : List ℕ) (n : Numbers) (e : Event) where
  abbrev w : Words
  w = shown l ws

  pub claim_stands : (s q : ℕ) → e ≡ Claim s q → (b : Bool) → (IsTrue b ↔ Reaches l w.keys w.index n.key q) → StandsIn l ws n e b
  claim_stands s q is b says = subst (λ (x : Event). StandsIn l ws n x b) (sym is) (λ known merger sound told. let v : Known = known_of (state_over l ws known merger) s in let k : v.placing.key ≡ n.key = ap (λ (m : Numbers). m.key) told in
      (λ t. subst (λ (key : ℕ). Reaches l w.keys w.index key q) (sym k) (says.0 t), λ r. says.1 (subst (λ (key : ℕ). Reaches l w.keys w.index key q) k r)))

  -- what the session's hand decides
  hand_stands : (P : Hold → Type 0) (v : Known) → numbers_of v ≡ n → (b : Bool) → (IsTrue b ↔ P n.hold) → IsTrue b ↔ P v.hold
  hand_stands P v told b says = let hold : v.hold ≡ n.hold = ap (λ (m : Numbers). m.hold) told in (λ t. subst P (sym hold) (says.0 t), λ r. says.1 (subst P hold r))

  pub install_stands : (s : ℕ) → e ≡ Install s → (b : Bool) → (IsTrue b ↔ IsPut l w n.hold) → StandsIn l ws n e b
  install_stands s is b says = subst (λ (x : Event). StandsIn l ws n x b) (sym is) (λ known merger sound told. hand_stands (IsPut l w) (known_of (state_over l ws known merger) s) told b says)

  pub post_stands : (s column q : ℕ) → e ≡ Post s column q → (b : Bool) → (IsTrue b ↔ IsPostable l w n.hold column q) → StandsIn l ws n e b
  post_stands s column q is b says = subst (λ (x : Event). StandsIn l ws n x b) (sym is) (λ known merger sound told. hand_stands (λ h. IsPostable l w h column q) (known_of (state_over l ws known merger) s) told b says)

  -- of a session with a tail in hand
  module _ (known : ℕ → Known) (merger : Known) (sound : Sound (state_over l ws known merger)) (s : ℕ) (low : s < l.sessions) (held : 0 < (known s).hold.tail) where
    abbrev v : Known
    v = known s

    judged : acts (λ t. not (eqb (state_at w t) 1)) (act_in l w.cells) (line l w (v.hold.latch - 1)) ≡ sight v (w.keys (v.hold.latch - 1))
    judged = let h = sound.versions.hands s low in judged_sight (state_over l ws known merger) sound s low (h.opened (h.holds held)) held

    drafted : (p : ℕ) → IsWhole l ws v.hold → IsDrafted l w v p
    drafted p whole _ = (whole.0, whole.1, subst (λ (before : List Act). FitsAfter before (act_in l w.cells v.hold.tail)) judged whole.2)

    whole_of : (p : ℕ) → p ≡ 0 → IsDrafted l w v p → IsWhole l ws v.hold
    whole_of p first is = let q = is first in (q.0, q.1, subst (λ (before : List Act). FitsAfter before (act_in l w.cells v.hold.tail)) (sym judged) q.2)

    own_known : known_of (state_over l ws known merger) s ≡ v
    own_known = ap (λ (b : Bool). cond b merger v) (ne_eqb s l.sessions (λ e. omega arith))

    pub own_draft : (p : ℕ) → p ≡ 0 → v.hold ≡ n.hold → (b : Bool) → (IsTrue b ↔ IsWhole l ws n.hold) → IsTrue b ↔ IsDrafted l w (known_of (state_over l ws known merger) s) p
    own_draft p first is b says = subst (λ (u : Known). IsTrue b ↔ IsDrafted l w u p) (sym own_known)
        (λ t. drafted p (subst (IsWhole l ws) (sym is) (says.0 t)), λ d. says.1 (subst (IsWhole l ws) is (whole_of p first d)))

  pub draft_stands : step.IsWithin l e → Allows l n e → (s p x : ℕ) → e ≡ StoreCell s p x → p ≡ 0 → (b : Bool) → (IsTrue b ↔ IsWhole l ws n.hold) → StandsIn l ws n e b
  draft_stands within ok s p x is first b says = subst (λ (y : Event). StandsIn l ws n y b) (sym is) (λ known merger sound told.
      let in_range = subst (step.IsWithin l) is within in let low : s < l.sessions = in_range.0 in let allowed = subst (Allows l n) is ok in let some : 0 < n.hold.tail = allowed.0 in
      let own : known_of (state_over l ws known merger) s ≡ known s = ap (λ (c : Bool). cond c merger (known s)) (ne_eqb s l.sessions (λ f. omega arith)) in
      let hold : (known s).hold ≡ n.hold = ap (λ (u : Known). u.hold) (sym own) ∙ ap (λ (m : Numbers). m.hold) told in
      own_draft known merger sound s low (subst (λ (h : Hold). 0 < h.tail) (sym hold) some) p first hold b says)

  -- the begin word of a session that draws a tail
  pub draw_begun : IsTold l ws n e → step.IsWithin l e → Allows l n e → (s range : ℕ) → e ≡ DrawTail s range → entry w.begins (name_of s n.number) ≡ n.begin + 1
  draw_begun told within ok s range is = let in_range = subst (step.IsWithin l) is within in let low : s < l.sessions = in_range.0 in let allowed = subst (Allows l n) is ok in let some : 0 < n.hold.latch = allowed.0 in
      let c : Core = state_over l ws told.known told.merger in let v : Known = told.known s in let own : known_of c s ≡ v = ap (λ (b : Bool). cond b told.merger v) (ne_eqb s l.sessions (λ f. omega arith)) in
      let same : numbers_of v ≡ n = ap numbers_of (sym own) ∙ (ap (λ (x : Event). numbers_of (known_of c (session_of x))) (sym is) ∙ told.numbers) in
      let latch : v.hold.latch ≡ n.hold.latch = ap (λ (m : Numbers). m.hold.latch) same in let few = told.sound.sized.sessions.1 in
      name_entry w.begins s n.number (omega arith) ∙ (ap (w.begins s) (sym (ap (λ (m : Numbers). m.number) same)) ∙ ((told.sound.each s low).open_begin ((told.sound.versions.hands s low).opened (omega arith)) ∙ ap (λ (m : Numbers). m.begin + 1) same))

-- whether a claim is within the limits
pub claim_within : (l : Limits) (e : Event) (s q : ℕ) → e ≡ Claim s q → s < l.sessions → (n : ℕ) → n ≡ index_positions l → IsTrue (nat_lt q n) ↔ step.IsWithin l e
unfolding size
claim_within l e s q is low n at = subst (λ (x : Event). IsTrue (nat_lt q n) ↔ step.IsWithin l x) (sym is) (λ t. (low, subst (λ (m : ℕ). q < m) at (ltb-true q n t)), λ h. lt-ltb q n (subst (λ (m : ℕ). q < m) (sym at) h.1))

-- a session with a whole tail in hand
module _ (l : Limits) (ws : List ℕ) (n : Numbers) (e : Event) (told : IsTold l ws n e) where
  pub whole_held : (s : ℕ) → session_of e ≡ s → s < l.sessions → n.hold.is_whole ≡ true → IsHeld l ws n.hold
  whole_held s is low whole = let c : Core = state_over l ws told.known told.merger in let v : Known = told.known s in
      let own : known_of c s ≡ v = ap (λ (b : Bool). cond b told.merger v) (ne_eqb s l.sessions (λ f. omega arith)) in
      let hold : v.hold ≡ n.hold = ap (λ (u : Known). u.hold) (sym own) ∙ (ap (λ (x : ℕ). (known_of c x).hold) (sym is) ∙ ap (λ (m : Numbers). m.hold) told.numbers) in
      let k = told.sound.versions.hands s low in subst (λ (h : Hold). IsHeld l ws h) hold (let some = k.some (ap (λ (h : Hold). h.is_whole) hold ∙ whole) in record {
        read = record { wide = told.wide; known = told.known; merger = told.merger; sound = told.sound };
        latch = k.holds some;
        record_low = k.low;
        tail = some;
        few = k.few;
      })

  pub install_held : Allows l n e → step.IsWithin l e → (s : ℕ) → e ≡ Install s → IsHeld l ws n.hold
  install_held ok within s is = whole_held s (ap session_of is) (subst (step.IsWithin l) is within) (subst (Allows l n) is ok)

  pub post_held : Allows l n e → step.IsWithin l e → (s column q : ℕ) → e ≡ Post s column q → IsHeld l ws n.hold
  post_held ok within s column q is = let inside = subst (step.IsWithin l) is within in let allowed = subst (Allows l n) is ok in whole_held s (ap session_of is) inside.0 allowed.0
