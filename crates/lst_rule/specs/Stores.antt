-- A seat of a store, and what its steps tell.
use Rattle.std.specs.Prelude.{◌≡◌, ℕ, ◌+◌, ◌<◌, ◌≤◌, ◌^◌, List, ◌∷◌, ◌++◌, length, true, cond, eqb}
use Rattle.lst_layout.specs.declared.place.Place.{Place}
use Rattle.lst_layout.specs.declared.place.Place.TheVariants.{ClockWord, CommitWord}
use Rattle.lst_layout.specs.Addresses.{address}
use Rattle.lst_layout.specs.Words.{shown}
use Rattle.lst_model.specs.declared.commits.Commit.{Commit}
use Rattle.lst_model.specs.Histories.{Extends}
use Rattle.lst_core_state.specs.declared.events.Event.TheVariants.{Look, Take}
use Rattle.lst_core_state.specs.declared.facts.Find.TheVariants.{FreshClock}
use Rattle.lst_core_state.specs.declared.facts.Fact.{Fact}
use Rattle.lst_core_state.specs.declared.known.Known.{Known}
use Rattle.lst_core_state.specs.Facts.{early_find, index_facts}
use Rattle.lst_core_state.specs.State.{history_of, mine}
use Rattle.lst_core_state.specs.Step.{look_at, refreshed, took, held_off}
use Rattle.lst_rule.specs.declared.view.View.{View}
use Rattle.lst_rule.specs.Rule.{knows, hosts}
use Rattle.lst_rule.specs.Learned.{Learns, Kept, Met}
use Rattle.lst_rule.specs.declared.store.Store.{Store}
use Rattle.lst_rule.specs.Seats.{Sitting}

pub record IsSeatOf (store : Store) (seat : Sitting) : Type 0 where
  pub table : seat.table ≡ store.table.shared.table_id
  pub limits : seat.view.limits ≡ store.layout.limits
  pub sized : length seat.view.known ≡ store.layout.limits.sessions + 1
  pub low : (s : ℕ) → hosts seat.view s ≡ true → s ≤ store.layout.limits.sessions

-- a load of the session s at the place, which found x
pub record Looked (v w : View) (s : ℕ) (p : Place) (x : ℕ) : Type 0 where
  pub met : Met v w (Look s (address v.limits p)) p x x
  pub view : Learns v w s (look_at v.limits (shown v.limits met.made.told.words) (knows v s) p)
  pub kept : Kept v w

-- what is known once the clock was loaded, with this history and these facts of the index
abbrev pub clocked : Known → List Commit → List Fact → Known
clocked k all index = record k { seen = all; turn = refreshed k.turn; facts = k.facts ++ index; finds = k.finds ++ FreshClock (length all) ∷ early_find k (length all) }

-- a load of the clock, which found x: all that is committed then is seen, and the facts have the whole index
pub record Clocked (v w : View) (s x : ℕ) : Type 0 where
  pub all : List Commit
  pub index : List Fact
  pub grows : Extends all (knows v s).seen
  pub clock : length all ≡ x
  pub few : x < 2 ^ 32
  pub view : Learns v w s (clocked (knows v s) all index)
  pub looked : Looked v w s ClockWord x
  pub history : all ≡ history_of v.limits (shown v.limits looked.met.made.told.words)
  pub records : index ≡ index_facts v.limits (shown v.limits looked.met.made.told.words)
  pub least : length (knows v s).seen ≤ x
  -- its own commits were seen before
  pub own : s < v.limits.sessions → mine s (knows w s) ≡ mine s (knows v s)

-- a try of the session s to take the turn, which found x
pub record Tried (v w : View) (s x : ℕ) : Type 0 where
  pub met : Met v w (Take s) CommitWord (cond (eqb x 0) (s + 1) x) x
  pub view : Learns v w s (cond (eqb x 0) (took (knows v s)) (held_off (knows v s)))
  -- a try that fails stores nothing
  pub kept : 0 < x → Kept v w
