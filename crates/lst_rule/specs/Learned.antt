-- What a step leaves of a view, in the words of its caller.
use Rattle.std.specs.Prelude.{◌≡◌, ℕ, ◌≢◌, List, true, slice_index, slice_set}
use Rattle.lst_layout.specs.Addresses.{address}
use Rattle.lst_layout.specs.Words.{shown, word_at}
use Rattle.lst_layout.specs.declared.place.Place.{Place}
use Rattle.lst_core_state.specs.declared.known.Known.{Known}
use Rattle.lst_core_state.specs.declared.events.Event.{Event}
use Rattle.lst_core_state.specs.Step.{session_of, Stands, known_after}
use Rattle.lst_core_state.specs.Targets.{time_for}
use Rattle.lst_pages.specs.declared.events.PageEvent.{PageEvent}
use Rattle.lst_pages.specs.Known.{stepper, PageStands, known_after_page}
use Rattle.lst_rule.specs.declared.actions.Action.{Action}
use Rattle.lst_rule.specs.declared.actions.Action.TheVariants as action
use Rattle.lst_rule.specs.declared.view.View.{View}
use Rattle.lst_rule.specs.Actions.{actor, ActionStands}
use Rattle.lst_rule.specs.Rule.{knows, Allowed, Told}

-- the view is possible in some state of the store
pub record Possible (v : View) : Type 0 where
  pub words : List ℕ
  pub known : ℕ → Known
  pub merger : Known
  pub allowed : Allowed v words known merger

-- the words allow the step, wherever the store is, as far as the view says
abbrev pub MayStand : View → Action → Type 0
MayStand v a = (words : List ℕ) (known : ℕ → Known) (merger : Known) → Allowed v words known merger → ActionStands v.limits (shown v.limits words) (knows v (actor v.limits a)) a

-- of the core
abbrev pub CanStand : View → Event → Type 0
CanStand v e = (words : List ℕ) (known : ℕ → Known) (merger : Known) → Allowed v words known merger → Stands v.limits (shown v.limits words) (knows v (session_of e)) e

-- and on pages
abbrev pub PageCanStand : View → PageEvent → Type 0
PageCanStand v e = (words : List ℕ) (known : ℕ → Known) (merger : Known) → Allowed v words known merger → PageStands v.limits (shown v.limits words) (knows v (stepper v.limits e)).pages e

-- a stamp stores this time, wherever the store is
abbrev pub Times : View → Event → ℕ → Type 0
Times v e time = (words : List ℕ) (known : ℕ → Known) (merger : Known) → Allowed v words known merger → time_for v.limits (shown v.limits words) e ≡ time

-- of the sessions and the merger only s learnt something, and knows k now
pub record Learns (v w : View) (s : ℕ) (k : Known) : Type 0 where
  pub now : knows w s ≡ k
  pub others : (t : ℕ) → t ≢ s → knows w t ≡ knows v t
  pub hosted : w.hosts ≡ v.hosts
  pub limits : w.limits ≡ v.limits
  pub note : w.note ≡ v.note
  pub note_facts : w.note_facts ≡ v.note_facts
  pub whole : w.whole ≡ v.whole

-- where the view knows each word, it knows the same words as before
pub record Kept (v w : View) : Type 0 where
  pub words : v.whole ≡ true → w.words ≡ v.words

-- the step e was made on the word at the place, which it left as x
pub record Made (v w : View) (e : Event) (p : Place) (x : ℕ) : Type 0 where
  pub told : Told (action.Core e) (address v.limits p) x v w
  pub view : Learns v w (session_of e) (known_after v.limits (shown v.limits told.words) (knows v (session_of e)) e)
  pub words : w.words ≡ slice_set v.words (address v.limits p) x

-- and which it had found as y
pub record Met (v w : View) (e : Event) (p : Place) (x y : ℕ) : Type 0 where
  pub made : Made v w e p x
  pub found : word_at (shown v.limits made.told.words) p ≡ y
  pub own : v.whole ≡ true → y ≡ slice_index v.words (address v.limits p)

-- ---- the same of a step on pages

-- the step e was made on the word at the place, which it left as x
pub record PageMade (v w : View) (e : PageEvent) (p : Place) (x : ℕ) : Type 0 where
  pub told : Told (action.Page e) (address v.limits p) x v w
  pub view : Learns v w (stepper v.limits e) (known_after_page v.limits (shown v.limits told.words) (knows v (stepper v.limits e)) e)
  pub words : w.words ≡ slice_set v.words (address v.limits p) x

-- and which it had found as y
pub record PageMet (v w : View) (e : PageEvent) (p : Place) (x y : ℕ) : Type 0 where
  pub made : PageMade v w e p x
  pub found : word_at (shown v.limits made.told.words) p ≡ y
  pub own : v.whole ≡ true → y ≡ slice_index v.words (address v.limits p)
