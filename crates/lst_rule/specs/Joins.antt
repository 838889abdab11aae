-- How the view of a seat is split, and how the views of two seats are joined.
use Rattle.std.specs.Prelude.{◌≡◌, ℕ, ◌+◌, ◌<◌, List, [], ◌∷◌, Bool, true, false, cond, nat_lt, ◌&&◌, ◌||◌, length, map, replicate, slice_index_or, slice_set}
use Rattle.atomic_table.specs.Table.{Step}
use Rattle.lst_layout.specs.declared.limits.Limits.{Limits}
use Rattle.lst_model.specs.declared.commits.Commit.{Commit}
use Rattle.lst_core_state.specs.declared.facts.Fact.{Fact}
use Rattle.lst_core_state.specs.declared.known.Known.{Known}
use Rattle.lst_core_state.specs.declared.numbers.Numbers.{Numbers}
use Rattle.lst_core_state.specs.Laws.{heard}
use Rattle.lst_core_state.specs.State.{newcomer}
use Rattle.lst_rule.specs.declared.view.View.{View}
use Rattle.lst_rule.specs.declared.splits.Room.{Room}
use Rattle.lst_rule.specs.Rule.{knows, Sat}
use Rattle.lst_rule.specs.Learned.{Possible}
use Rattle.lst_rule.specs.Seats.{told}

-- ---- a split

-- the view without the session s
abbrev pub without : ℕ → View → View
without s v = record v { hosts = slice_set v.hosts s false; whole = false }

-- whom a seat of the session s hosts
abbrev pub only : Limits → ℕ → List Bool
only l s = slice_set (replicate (l.sessions + 1) false) s true

-- the view with the session s alone
abbrev pub alone : ℕ → View → View
alone s v = record v { hosts = only v.limits s; whole = false }

-- a note of what the session s has seen, with its facts, which hosts nobody
abbrev pub noted : ℕ → View → View
noted s v = record v { hosts = []; note = (knows v s).seen; note_facts = (knows v s).facts; whole = false }

-- ---- a join

-- a view that a join leaves: it hosts nobody and knows nothing
abbrev pub spent : Limits → View
spent l = record { limits = l; hosts = []; known = replicate (l.sessions + 1) (newcomer l); note = []; note_facts = []; whole = false; words = [] }

-- some session is hosted by both
abbrev pub overlap : List Bool → List Bool → Bool
overlap [] bs = false
overlap (a ∷ rest) [] = false
overlap (a ∷ rest) (b ∷ bs) = (a && b) || overlap rest bs

-- the entries of the second list where these are true, and else those of the first
abbrev pub united_lists : {A : Type 0} → List Bool → List A → List A → List A
united_lists [] xs ys = xs
united_lists (b ∷ bs) [] ys = []
united_lists (b ∷ bs) (x ∷ xs) [] = x ∷ xs
united_lists (b ∷ bs) (x ∷ xs) (y ∷ ys) = cond b y x ∷ united_lists bs xs ys

-- one view of two: each session knows what it knew, and the note is the one that was joined. No two seats host one session; so where
-- both did, the view would be one that no store allows
abbrev pub united : View → View → View
united v w = record v {
  hosts = united_lists w.hosts v.hosts w.hosts;
  known = cond (overlap v.hosts w.hosts) [] (united_lists w.hosts v.known w.known);
  note = w.note;
  note_facts = w.note_facts;
}

-- ---- a note is heard

-- the longer of two histories
abbrev pub longer : List Commit → List Commit → List Commit
longer a b = cond (nat_lt (length a) (length b)) b a

-- what is known once a note was heard: the longer history is seen, and both lists of facts are kept
abbrev pub hears : List Commit → List Fact → Known → Known
hears note facts k = heard k (longer k.seen note) facts

-- the view once all that it hosts have heard its note
abbrev pub hearing : View → View
hearing v = record v { known = map (hears v.note v.note_facts) v.known }

-- all that the seat hosts have heard its note, in a state that was met
pub record Heard (v w : View) : Type 0 where
  pub before : Possible v
  pub now : w ≡ hearing v
  pub after : Possible w

-- ---- what is told

-- by a load that changes no view: that the view is possible
abbrev pub confirmed : Step (Unit {0}) → Sat → ℕ → Sat → Type 0
confirmed st m r n = Possible m.0 × (n ≡ m)

-- by the load at which a note is heard
abbrev pub note_heard : Step (Unit {0}) → Sat → ℕ → Sat → Type 0
note_heard st m r n = Heard m.0 n.0 × (n.1 ≡ m.1)

-- the memory serves a seat of the session s alone, split off one with this view
pub record Serves (room : Room) (v : View) (s : ℕ) : Type 0 where
  pub hosted : room.hosted.items ≡ only v.limits s
  pub wide : s < length room.numbers.items
  pub is : slice_index_or room.numbers.items s (told v s) ≡ told v s

-- the numbers of what a session knows, once it has heard a note of this length
abbrev pub hears_numbers : ℕ → Numbers → Numbers
hears_numbers time n = record n { seen = cond (nat_lt n.seen time) time n.seen }
