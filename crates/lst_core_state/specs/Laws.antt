-- What the crates above may rest on, of every sound state and every step from it.
use Rattle.std.specs.Prelude.{◌≡◌, ◌≢◌, ◌⊎◌, ◌↔◌, ℕ, ◌+◌, ◌-◌, ◌/◌, ◌%◌, ◌<◌, ◌≤◌, List, [], ◌∷◌, ◌++◌, true, false, not, eqb, take}
use Rattle.lst_model.specs.declared.commits.Commit.{Commit}
use Rattle.lst_model.specs.Histories.{all_acts_on, Extends}
use Rattle.lst_model.specs.Soundness.{IsSound, IsConflictFree}
use Rattle.lst_core_state.specs.Lists.{Has, acts, Judged, is_until}
use Rattle.lst_core_state.specs.Writes.{commit}
use Rattle.lst_layout.specs.declared.limits.Limits.{Limits}
use Rattle.lst_layout.specs.Areas.{IsIndexed}
use Rattle.lst_probe.specs.Run.{Passes}
use Rattle.lst_layout.specs.Functions.{put}
use Rattle.lst_core_state.specs.declared.known.Known.{Known}
use Rattle.lst_core_state.specs.declared.events.Event.{Event}
use Rattle.lst_core_state.specs.declared.events.Event.TheVariants.{Clock, Post}
use Rattle.lst_core_state.specs.declared.known.Hold.{Hold}
use Rattle.lst_core_state.specs.declared.facts.Fact.{Fact}
use Rattle.lst_core_state.specs.declared.facts.Fact.TheVariants.{PostAt}
use Rattle.lst_core_state.specs.Cells.{record_count, has_bit, has_number}
use Rattle.lst_core_state.specs.Index.{is_placed}
use Rattle.lst_core_state.specs.Postings.{postings_size, value_first, value_position, IsAlike, IsPosted, is_unposted}
use Rattle.lst_core_state.specs.State.{Words, Core, entry, writer_at, state_at, name_of, line, record_in, act_in, history_of, sight, is_visible}
use Rattle.lst_core_state.specs.Step.{IsWithin, Enabled, Stands, IsEnabled, after}
use Rattle.lst_core_state.specs.Facts.{IsFact}
use Rattle.lst_core_state.specs.Sound.{FactsOf, SeenIsRecorded, Posting, Sound}

-- ---- every state

-- the decoded history is sound and free of conflicts, and so is what each session has seen of it
pub record HistoryOf (c : Core) : Type 0 where
  pub sound : IsSound (history_of c.limits c.words)
  pub apart : IsConflictFree (history_of c.limits c.words)
  pub seen : (s : ℕ) → s < c.limits.sessions → IsSound (c.known s).seen
  -- a key that some commit wrote has a record in the index
  pub placed : (k : ℕ) → ((r : ℕ) × (r < record_count c.limits) × (is_placed c.limits c.words.index r ≡ true) × (c.words.keys r ≡ k)) ⊎ (all_acts_on k (history_of c.limits c.words) ≡ [])

abbrev pub HistoriesAreSound : Type 0
HistoriesAreSound = (c : Core) → Sound c → HistoryOf c

-- what the open transaction of a session sees of the chain of a record in the index
pub record Sight (c : Core) (s r : ℕ) (w : Words) (v : Known) (own : ℕ) (chain : List ℕ) : Type 0 where
  -- the visible versions, old to new, are the acts on its key up to the begin, and then its own
  pub visible : acts (is_visible w own v.begin) (act_in c.limits w.cells) chain ≡ sight v (w.keys r)
  -- where the first version that isn't closed is its own, or was committed by its begin, those that aren't closed are the visible ones
  pub judged : Judged (entry w.states) (entry w.begins) (writer_at w) own chain → acts (λ t. not (eqb (state_at w t) 1)) (act_in c.limits w.cells) chain ≡ sight v (w.keys r)

abbrev pub ChainsAreSights : Type 0
ChainsAreSights = (c : Core) → Sound c → (s : ℕ) → s < c.limits.sessions → (c.known s).is_open ≡ true → (r : ℕ) → r < record_count c.limits → is_placed c.limits c.words.index r ≡ true
    → Sight c s r c.words (c.known s) (name_of s (c.known s).number) (line c.limits c.words r)

-- a key of no record in the index is in no sight
abbrev pub AbsentIsUnseen : Type 0
AbsentIsUnseen = (c : Core) → Sound c → (s : ℕ) → s < c.limits.sessions → (c.known s).is_open ≡ true → (k : ℕ) → ((r : ℕ) → r < record_count c.limits → is_placed c.limits c.words.index r ≡ true → c.words.keys r ≢ k) → sight (c.known s) k ≡ []

-- some commit is of this session's transaction
abbrev pub Names : List Commit → ℕ → ℕ → Type 0
Names [] s n = ⊥
Names (c ∷ cs) s n = ((c.session ≡ s) × (c.number ≡ n)) ⊎ Names cs s n

-- a transaction was committed by the begin exactly where what was seen up to the begin names it: for good
abbrev pub VisibleIsSeen : Type 0
VisibleIsSeen = (c : Core) → Sound c → (s : ℕ) → s < c.limits.sessions → (c.known s).is_open ≡ true → (x : ℕ) → x % 16 < c.limits.sessions
    → (is_until (c.known s).begin (entry c.words.states x) ≡ true) ↔ Names (take (c.known s).begin (c.known s).seen) (x % 16) (x / 16)

-- the acts on the key of a record in the index, up to a time by the clock, are those of its versions that were committed by then
abbrev pub ChainsAreHistory : Type 0
ChainsAreHistory = (c : Core) → Sound c → (b : ℕ) → b ≤ c.words.clock → (r : ℕ) → r < record_count c.limits → is_placed c.limits c.words.index r ≡ true
    → acts (λ t. is_until b (state_at c.words t)) (act_in c.limits c.words.cells) (line c.limits c.words r) ≡ all_acts_on (c.words.keys r) (take b (history_of c.limits c.words))

-- and no commit wrote a key of no record in the index
abbrev pub AbsentIsUnwritten : Type 0
AbsentIsUnwritten = (c : Core) → Sound c → (b : ℕ) → b ≤ c.words.clock → (k : ℕ) → ((r : ℕ) → r < record_count c.limits → is_placed c.limits c.words.index r ≡ true → c.words.keys r ≢ k) → all_acts_on k (take b (history_of c.limits c.words)) ≡ []

-- ---- postings

-- the postings of a column are never full: each value's run comes to an empty position
abbrev pub PostingsHaveRoom : Type 0
PostingsHaveRoom = (c : Core) → Sound c → (column value : ℕ)
    → (k : ℕ) × (k < postings_size c.limits) × (c.words.postings column (value_position c.limits value k) ≡ 0) × ((i : ℕ) → i < k → 0 < c.words.postings column (value_position c.limits value i))

-- where a value's run is empty at its k-th position, the positions before it show every version with the value: for each tail on a chain that
-- holds the indexed column with this number, one of them holds a tail of its record with the value
abbrev pub VersionsAreShown : Type 0
VersionsAreShown = (c : Core) → Sound c → (column value k : ℕ) → column < c.limits.columns → IsIndexed c.limits column → k < postings_size c.limits → c.words.postings column (value_position c.limits value k) ≡ 0
    → (r t : ℕ) → r < record_count c.limits → Has t (line c.limits c.words r) → has_number (c.words.cells t 1) column ≡ true → c.words.cells t (3 + column) ≡ value
    → (i : ℕ) × (i < k) × (0 < c.words.postings column (value_position c.limits value i)) × IsAlike c.limits c.words.cells column r value (c.words.postings column (value_position c.limits value i))

-- each posting holds a stored tail that has the column with a number; its record has a place in the index, and the tail is on its chain, or in the
-- hand of the session that has its latch
pub record PostedTail (c : Core) (column q t : ℕ) : Type 0 where
  pub posting : Posting c.limits c.words.cells (c.words.postings column) column q t
  pub low : record_in c.limits c.words.cells t < record_count c.limits
  pub placed : is_placed c.limits c.words.index (record_in c.limits c.words.cells t) ≡ true
  pub place : Has t (line c.limits c.words (record_in c.limits c.words.cells t))
      ⊎ ((s : ℕ) × (s < c.limits.sessions) × ((c.known s).hold.tail ≡ t) × ((c.known s).hold.latch ≡ record_in c.limits c.words.cells t + 1))

abbrev pub PostingsAreTails : Type 0
PostingsAreTails = (c : Core) → Sound c → (column q : ℕ) → 0 < c.words.postings column q → PostedTail c column q (c.words.postings column q)

-- the columns that a session has marked as posted of its tail in hand are posted
abbrev pub MarkedArePosted : Type 0
MarkedArePosted = (c : Core) → Sound c → (s : ℕ) → s < c.limits.sessions → 0 < (c.known s).hold.tail → (column : ℕ) → has_bit (c.known s).draft.posted column ≡ true
    → IsPosted c.limits c.words.cells (c.words.postings column) column ((c.known s).hold.latch - 1) (c.words.cells (c.known s).hold.tail (3 + column))

-- a load of the position at which the run of its tail's number ends, with nothing alike before it, marks the column as found unposted
abbrev pub EndsAreMarked : Type 0
EndsAreMarked = (l : Limits) (w : Words) (h : Hold) (column n : ℕ) → h.is_whole ≡ true → has_number (w.cells h.tail 1) column ≡ true → n < postings_size l
    → Passes (w.postings column) (λ t. ¬ IsAlike l w.cells column (h.latch - 1) (w.cells h.tail (3 + column)) t) (postings_size l) (value_first l (w.cells h.tail (3 + column))) n
    → w.postings column (value_position l (w.cells h.tail (3 + column)) n) ≡ 0 → is_unposted l w h column (value_position l (w.cells h.tail (3 + column)) n) ≡ true

-- a tail in hand that was found unposted in an indexed column, and wasn't posted since, may be posted at the n-th position of its number's run, where
-- facts say that the positions before it hold tails
abbrev pub UnpostedMayBePosted : Type 0
UnpostedMayBePosted = (c : Core) → Sound c → (s : ℕ) → s < c.limits.sessions → 0 < (c.known s).hold.tail → (column n : ℕ) → IsIndexed c.limits column → n < postings_size c.limits
    → has_bit (c.known s).draft.unposted column ≡ true → has_bit (c.known s).draft.posted column ≡ false
    → ((i : ℕ) → i < n → (t : ℕ) × IsFact c.limits c.words (PostAt column (value_position c.limits (c.words.cells (c.known s).hold.tail (3 + column)) i) t))
    → let e : Event = Post s column (value_position c.limits (c.words.cells (c.known s).hold.tail (3 + column)) n) in Enabled c.limits (c.known s) e × Stands c.limits c.words (c.known s) e

-- what a session has heard of the history, with more facts
abbrev pub heard : Known → List Commit → List Fact → Known
heard v seen more = record v { seen = seen; facts = v.facts ++ more }

abbrev pub with_heard : Core → ℕ → List Commit → List Fact → Core
with_heard c s seen more = record c { known = put c.known s (heard (c.known s) seen more) }

-- what a session has seen may be lengthened to any longer front of the history, with facts that are so and have the record
-- of each key that it wrote
pub record MayHear (c : Core) (v : Known) (seen : List Commit) (more : List Fact) : Type 0 where
  pub prefix : Extends (history_of c.limits c.words) seen
  pub longer : Extends seen v.seen
  pub facts : FactsOf c.limits c.words more
  pub keys : SeenIsRecorded (v.facts ++ more) seen

abbrev pub SeenMayGrow : Type 0
SeenMayGrow = (c : Core) → Sound c → (s : ℕ) → s < c.limits.sessions → (seen : List Commit) (more : List Fact) → MayHear c (c.known s) seen more → Sound (with_heard c s seen more)

-- and so may what the merger has seen
abbrev pub MergerMayGrow : Type 0
MergerMayGrow = (c : Core) → Sound c → (seen : List Commit) (more : List Fact) → MayHear c c.merger seen more → Sound (record c { merger = heard c.merger seen more })

-- ---- every step

-- what a step of a session appends to the history: publishing the clock one commit, every other step nothing
abbrev pub published : Core → Event → List Commit
published c (Clock s) = let v = c.known s in commit s v.number v.begin v.own ∷ []
published c e = []

pub record StepOf (c : Core) (e : Event) (d : Core) : Type 0 where
  pub sound : Sound d
  pub history : history_of d.limits d.words ≡ history_of c.limits c.words ++ published c e
  -- a settled version keeps its writer, its content and its status
  pub settled : (t : ℕ) → 0 < c.words.cells t 0 → 0 < state_at c.words t
      → (writer_at d.words t ≡ writer_at c.words t) × (record_in c.limits d.words.cells t ≡ record_in c.limits c.words.cells t) × (act_in c.limits d.words.cells t ≡ act_in c.limits c.words.cells t) × (state_at d.words t ≡ state_at c.words t)
  -- a chain stays, or has one more tail before it
  pub chains : (r : ℕ) → r < record_count c.limits → (line c.limits d.words r ≡ line c.limits c.words r) ⊎ ((t : ℕ) × (line c.limits d.words r ≡ t ∷ line c.limits c.words r))
  -- a fact stays
  pub facts : (f : Fact) → IsFact c.limits c.words f → IsFact c.limits d.words f

abbrev pub StepsAreSound : Type 0
StepsAreSound = (c : Core) → Sound c → (e : Event) → IsWithin c.limits e → IsEnabled c e → StepOf c e (after c e)
