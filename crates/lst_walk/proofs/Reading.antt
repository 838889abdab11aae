-- What a reader keeps from one load to the next.
use Rattle.std.proofs.Common.{◌≡◌, ℕ, ◌+◌, ◌<◌, List, Bool, true, Contains, sym, subst, ap, ◌∙◌}
use Rattle.std.proofs.lemmas.List.Elements.{Contains-append_left}
use Rattle.lst_layout.specs.declared.limits.Limits.{Limits}
use Rattle.lst_layout.specs.declared.place.Place.{Place}
use Rattle.lst_layout.specs.declared.place.Place.TheVariants.{CellWord}
use Rattle.lst_layout.specs.Addresses as layout
use Rattle.lst_layout.specs.Addresses.{address}
use Rattle.lst_core_state.specs.declared.known.Known.{Known}
use Rattle.lst_core_state.specs.declared.events.Event.TheVariants.{Look}
use Rattle.lst_rule.specs.declared.view.View.{View}
use Rattle.lst_rule.specs.Rule.{knows, hosts}
use Rattle.lst_rule.specs.Learned.{Possible, Met}
use Rattle.lst_rule.specs.declared.actions.Action.TheVariants as action
use Rattle.lst_rule.proofs.Learning.{possible_after}
use Rattle.lst_rule.specs.declared.store.Store.{Store}
use Rattle.lst_rule.specs.Seats.{Sitting}
use Rattle.lst_rule.specs.Stores.{IsSeatOf, Looked}
use Rattle.lst_rule.specs.Copies.{Version, fact_of, IsVersionOf, Includes}
use Rattle.lst_rule.specs.Seen.{sees}
use Rattle.lst_rule.specs.Loads.{WordFound, StartFound}
use Rattle.lst_rule.specs.Watching.{Watched, IsWatched}
use Rattle.lst_rule.proofs.Watching.{looks_watch, watchers_keep, watches_join}
use Rattle.lst_rule.proofs.Finding.{words_are_found, starts_are_found}
use Rattle.lst_rule.proofs.Seeing.{same_sees}
use Rattle.lst_walk.specs.Readers.{IsReader, IsAt, HasVersion}

pub watched_on : (u v w : View) (s : ℕ) → Watched u v s → Watched v w s → Watched u w s
watched_on = watches_join

pub reader_on : (store : Store) (a b : Sitting) (s : ℕ) → IsReader store a s → Watched a.view b.view s → IsSeatOf store b → IsReader store b s
reader_on store a b s reader watched seat_of = record {
  seat_of = seat_of;
  host = ap (λ (hs : List Bool). slice_is hs) watched.learns.hosted ∙ reader.host;
  own = subst (λ (l : Limits). s < l.sessions) (sym watched.learns.limits) reader.own;
  opened = ap (λ (k : Known). k.is_open) watched.watches.is ∙ reader.opened;
}
  where
    slice_is : List Bool → Bool
    slice_is hs = hosts record b.view { hosts = hs } s

pub facts_on : (v w : View) (s : ℕ) → Watched v w s → Includes (knows w s).facts (knows v s).facts
facts_on v w s watched f h = subst (λ (k : Known). Contains k.facts f) (sym watched.watches.is) (Contains-append_left (knows v s).facts watched.watches.facts f h)

pub at_on : (v w : View) (s tail : ℕ) (c : Version) → Watched v w s → IsAt v s tail c → IsAt w s tail c
at_on v w s tail c watched at = record {
  rec = at.rec;
  is = subst (λ (l : Limits). IsVersionOf l at.rec c) (sym watched.learns.limits) at.is;
  known = facts_on v w s watched (fact_of c) at.known;
  at = at.at;
}

pub version_on : (v w : View) (s tail : ℕ) → Watched v w s → HasVersion v s tail → HasVersion w s tail
version_on v w s tail watched has = (has.0, at_on v w s tail has.0 watched has.1)

-- what is seen stays
pub sees_on : (v w : View) (s x : ℕ) → Possible v → hosts v s ≡ true → (knows v s).is_open ≡ true → Watched v w s → sees (knows w s) s x ≡ sees (knows v s) s x
sees_on v w s x p hosted opened watched = same_sees (knows v s) (knows w s) s x (watchers_keep v w s p hosted opened watched).alike

-- a load of a place that is watched
pub looked_watched : (v w : View) (s x : ℕ) (p : Place) → hosts v s ≡ true → layout.IsWithin v.limits p → IsWatched p → Looked v w s p x → Watched v w s
looked_watched v w s x p hosted inside is looked = looks_watch v w s x p hosted inside is looked.met

pub looked_possible : (v w : View) (s x : ℕ) (p : Place) → Looked v w s p x → Possible w
looked_possible v w s x p looked = possible_after v w (action.Core (Look s (address v.limits p))) (address v.limits p) x looked.met.made.told

-- a word of a version is a word of the store
pub cell_within : (v : View) (s tail place : ℕ) → HasVersion v s tail → place < 3 + v.limits.columns → layout.IsWithin v.limits (CellWord tail place)
cell_within v s tail place has below = let is = has.1.is in subst (λ (t : ℕ). layout.IsWithin v.limits (CellWord t place)) has.1.at (is.some, is.few, below)

pub word_found : (v w : View) (s tail place x : ℕ) → hosts v s ≡ true → place < 3 + v.limits.columns → Looked v w s (CellWord tail place) x → (c : Version) → IsAt v s tail c → WordFound v.limits c place x
word_found v w s tail place x hosted below looked c at = words_are_found v w s at.rec place x c hosted at.is at.known below
    (subst (λ (t : ℕ). Met v w (Look s (address v.limits (CellWord t place))) (CellWord t place) x x) (sym at.at) looked.met)

pub start_found : (v w : View) (s tail x : ℕ) → hosts v s ≡ true → Looked v w s (CellWord tail 0) x → (c : Version) (at : IsAt v s tail c) → StartFound (knows w s) at.rec c x
start_found v w s tail x hosted looked c at = starts_are_found v w s at.rec x c hosted at.is at.known
    (subst (λ (t : ℕ). Met v w (Look s (address v.limits (CellWord t 0))) (CellWord t 0) x x) (sym at.at) looked.met)
