-- What a step tells, in the words of its caller.
use Rattle.std.proofs.Common.{◌≡◌, ℕ, ◌<◌, List, true, set, refl, sym, subst, ap, ◌∙◌, arith, length, slice_index, get_or-set_same, get_or-set_other}
use Rattle.std.proofs.lemmas.List.{set-get_or}
use Rattle.lst_layout.specs.Addresses as layout
use Rattle.lst_layout.specs.Addresses.{address}
use Rattle.lst_layout.specs.Words.{shown}
use Rattle.lst_layout.specs.declared.place.Place.{Place}
use Rattle.lst_layout.proofs.Shown as shows
use Rattle.lst_core_state.specs.declared.known.Known.{Known}
use Rattle.lst_core_state.specs.declared.events.Event.{Event}
use Rattle.lst_core_state.specs.State.{newcomer}
use Rattle.lst_core_state.specs.Step.{session_of, known_after}
use Rattle.lst_core_state.specs.State.{state_over}
use Rattle.lst_pages.specs.declared.events.PageEvent.{PageEvent}
use Rattle.lst_pages.specs.Known.{stepper, known_after_page}
use Rattle.lst_rule.specs.declared.actions.Action.{Action}
use Rattle.lst_rule.specs.declared.actions.Action.TheVariants.{Core, Page}
use Rattle.lst_rule.specs.declared.view.View.{View}
use Rattle.lst_rule.specs.Rule.{knows, hosts, Told}
use Rattle.lst_rule.specs.Actions.{after_action}
use Rattle.lst_rule.specs.Learned.{Possible, Learns, Kept, Made, Met, PageMade, PageMet}

-- the view, where the session s knows k and the word i is x
abbrev pub with : View → ℕ → Known → ℕ → ℕ → View
with v s k i x = record v { known = set v.known s k; words = set v.words i x }

pub learns_with : (v w : View) (s : ℕ) (k : Known) (i x : ℕ) → s < length v.known → w ≡ with v s k i x → Learns v w s k
learns_with v w s k i x low is = subst (λ (u : View). Learns v u s k) (sym is) record {
  now = get_or-set_same v.known s k (newcomer v.limits) low;
  others = λ t other. get_or-set_other v.known s t k (newcomer v.limits) other;
  hosted = refl;
  limits = refl;
  note = refl;
  note_facts = refl;
  whole = refl;
}

pub learns_on : (u v w : View) (s : ℕ) (k m : Known) → Learns u v s k → Learns v w s m → Learns u w s m
learns_on u v w s k m a b = record {
  now = b.now;
  others = λ t other. b.others t other ∙ a.others t other;
  hosted = b.hosted ∙ a.hosted;
  limits = b.limits ∙ a.limits;
  note = b.note ∙ a.note;
  note_facts = b.note_facts ∙ a.note_facts;
  whole = b.whole ∙ a.whole;
}

-- nothing was learnt
pub learns_same : (v : View) (s : ℕ) → Learns v v s (knows v s)
learns_same v s = record {
  now = refl;
  others = λ t other. refl;
  hosted = refl;
  limits = refl;
  note = refl;
  note_facts = refl;
  whole = refl;
}

-- a session that the view hosts stands in its list
pub listed_low : (v w : View) (a : Action) (i x s : ℕ) → Told a i x v w → hosts v s ≡ true → s < length v.known
listed_low v w a i x s t hosted = let low = t.allowed.low s hosted in let b = t.allowed.sized in omega arith

abbrev pub made : (v w : View) (e : Event) (p : Place) (x : ℕ) → Told (Core e) (address v.limits p) x v w → hosts v (session_of e) ≡ true → Made v w e p x
made v w e p x t hosted = record {
  told = t;
  view = learns_with v w (session_of e) (known_after v.limits (shown v.limits t.words) (knows v (session_of e)) e) (address v.limits p) x (listed_low v w (Core e) (address v.limits p) x (session_of e) t hosted) t.now;
  words = ap (λ (u : View). u.words) t.now;
}

abbrev pub met : (v w : View) (e : Event) (p : Place) (x y : ℕ) → layout.IsWithin v.limits p → (h : (t : Told (Core e) (address v.limits p) x v w) × (slice_index t.words (address v.limits p) ≡ y)) → hosts v (session_of e) ≡ true → Met v w e p x y
met v w e p x y within h hosted = record {
  made = made v w e p x h.0 hosted;
  found = shows.found v.limits h.0.words h.0.allowed.wide p within ∙ h.1;
  own = λ whole. sym h.1 ∙ ap (λ (ws : List ℕ). slice_index ws (address v.limits p)) (sym (h.0.allowed.whole whole));
}

-- the same of a step on pages
abbrev pub page_made : (v w : View) (e : PageEvent) (p : Place) (x : ℕ) → Told (Page e) (address v.limits p) x v w → hosts v (stepper v.limits e) ≡ true → PageMade v w e p x
page_made v w e p x t hosted = record {
  told = t;
  view = learns_with v w (stepper v.limits e) (known_after_page v.limits (shown v.limits t.words) (knows v (stepper v.limits e)) e) (address v.limits p) x (listed_low v w (Page e) (address v.limits p) x (stepper v.limits e) t hosted) t.now;
  words = ap (λ (u : View). u.words) t.now;
}

abbrev pub page_met : (v w : View) (e : PageEvent) (p : Place) (x y : ℕ) → layout.IsWithin v.limits p → (h : (t : Told (Page e) (address v.limits p) x v w) × (slice_index t.words (address v.limits p) ≡ y)) → hosts v (stepper v.limits e) ≡ true → PageMet v w e p x y
page_met v w e p x y within h hosted = record {
  made = page_made v w e p x h.0 hosted;
  found = shows.found v.limits h.0.words h.0.allowed.wide p within ∙ h.1;
  own = λ whole. sym h.1 ∙ ap (λ (ws : List ℕ). slice_index ws (address v.limits p)) (sym (h.0.allowed.whole whole));
}

-- the view after a step is possible
pub possible_after : (v w : View) (a : Action) (i x : ℕ) → Told a i x v w → Possible w
possible_after v w a i x t = record {
  words = set t.words i x;
  known = (after_action (state_over v.limits t.words t.known t.merger) a).known;
  merger = (after_action (state_over v.limits t.words t.known t.merger) a).merger;
  allowed = t.after;
}

-- the same, where the second step is told by what the session knew before it
pub learns_then : (u v w : View) (s : ℕ) (k : Known) (f : Known → Known) → Learns u v s k → Learns v w s (f (knows v s)) → Learns u w s (f k)
learns_then u v w s k f a b = subst (λ (m : Known). Learns u w s (f m)) a.now (learns_on u v w s k (f (knows v s)) a b)

-- ---- the words that a view knows

-- a step that leaves its word as it found it
pub kept_by : (v w : View) (e : Event) (p : Place) (x : ℕ) → Met v w e p x x → Kept v w
kept_by v w e p x m = record { words = λ whole. m.made.words ∙ (ap (set v.words (address v.limits p)) (m.own whole) ∙ set-get_or v.words (address v.limits p) 0) }

pub page_kept_by : (v w : View) (e : PageEvent) (p : Place) (x : ℕ) → PageMet v w e p x x → Kept v w
page_kept_by v w e p x m = record { words = λ whole. m.made.words ∙ (ap (set v.words (address v.limits p)) (m.own whole) ∙ set-get_or v.words (address v.limits p) 0) }

pub kept_same : (v : View) → Kept v v
kept_same v = record { words = λ _. refl }

pub kept_on : (u v w : View) → v.whole ≡ u.whole → Kept u v → Kept v w → Kept u w
kept_on u v w same a b = record { words = λ whole. b.words (same ∙ whole) ∙ a.words whole }
