-- A crew: its seat hosts every session and the merger, and between two calls nobody has anything in hand. Where it knows each word, and nothing
-- was drawn in vain, it tells the state of the machine of one thread.
use Rattle.std.specs.Prelude.{◌≡◌, ℕ, ◌<◌, ◌≤◌, List, true}
use Rattle.lst_layout.specs.Words.{Words, shown}
use Rattle.lst_model.specs.declared.commits.Commit.{Commit}
use Rattle.lst_model.specs.declared.lines.Call.{Call}
use Rattle.lst_model.specs.declared.lines.Line.{Line}
use Rattle.lst_model.specs.declared.replies.Reply.{Reply}
use Rattle.lst_model.specs.Histories.{Extends}
use Rattle.lst_machine.specs.State.{Store, Pages, State}
use Rattle.lst_machine.specs.Calls.{call_reply, store_after}
use Rattle.lst_machine.specs.Merges.{pages_after_call}
use Rattle.lst_machine.specs.Machine.{reply, next}
use Rattle.lst_core_state.specs.Cells.{record_count}
use Rattle.lst_core_state.specs.Index.{is_placed}
use Rattle.lst_core_state.specs.State.{commits_of, mine}
use Rattle.lst_rule.specs.declared.view.View.{View}
use Rattle.lst_rule.specs.Rule.{knows, hosts}
use Rattle.lst_rule.specs.declared.store.Store.{Store as Table}
use Rattle.lst_rule.specs.PageSteps.{stock_of}
use Rattle.lst_rule.specs.Stores.{IsSeatOf}
use Rattle.lst_rule.specs.Surveys.{Surveyed}
use Rattle.lst_rule.specs.Spares.{AreSpares}
use Rattle.lst_refinement.specs.Crews.{IsIdle, IsPinnedWhereOpen}
use Rattle.lst_refinement.specs.Folding.{AreFolded}
use Rattle.lst_refinement.specs.Telling.{told_store, told_pages}
use Rattle.lst_session.specs.Calls.{OnlyLooks, LoadsNoTail}
use Rattle.lst_session.specs.declared.crew.Crew.{Crew}

-- the words that the view knows
abbrev pub words_of : View → Words
words_of v = shown v.limits v.words

-- between two calls of the crew of a store: its seat hosts every session and the merger, no session has a record, latch, tail or turn in hand,
-- each is pinned exactly while it has a transaction open, and the spare frames are the merger's
pub record IsCrewOf (store : Table) (crew : Crew) : Type 0 where
  pub seat_of : IsSeatOf store crew.seat
  pub hosted : (s : ℕ) → s < crew.seat.view.limits.sessions → hosts crew.seat.view s ≡ true
  pub merger : hosts crew.seat.view crew.seat.view.limits.sessions ≡ true
  pub idle : (s : ℕ) → s < crew.seat.view.limits.sessions → IsIdle (knows crew.seat.view s)
  pub pinned : (s : ℕ) → s < crew.seat.view.limits.sessions → IsPinnedWhereOpen (knows crew.seat.view s)
  pub spares : AreSpares crew.seat.view crew.spares.items

-- the view tells a state of the machine: it knows each word, each record that was drawn is in the index, and no counter passed its limit
pub record TellsState (v : View) : Type 0 where
  pub whole : v.whole ≡ true
  pub records : (words_of v).counter ≤ record_count v.limits
  pub placed : (r : ℕ) → r < (words_of v).counter → is_placed v.limits (words_of v).index r ≡ true
  pub tails : (range : ℕ) → range < v.limits.ranges → (words_of v).counts range ≤ v.limits.tails

-- that state: a function of the words that it knows, and of what it knows of each session's transactions
abbrev pub store_told : View → Store
store_told v = told_store v.limits (words_of v) (knows v)

-- its page part: of the sessions' pins and the merger's stock
abbrev pub pages_known : View → Pages
pages_known v = told_pages v.limits (knows v) (stock_of v)

abbrev pub state_told : View → State
state_told v = record { store = store_told v; pages = pages_known v }

-- the answer to the session's call is the machine's, and the view then tells its next state
pub record Answers (v w : View) (s : ℕ) (call : Call) (answer : Reply) : Type 0 where
  pub reply : answer ≡ call_reply v.limits (store_told v) s call
  pub next : state_told w ≡ record { store = store_after v.limits (store_told v) s call; pages = pages_after_call v.limits (store_told v) (pages_known v) s call }
  pub limits : w.limits ≡ v.limits

-- the same of a line of a script
pub record AnswersLine (v w : View) (line : Line) (answer : Reply) : Type 0 where
  pub is : answer ≡ reply v.limits (state_told v) line
  pub then : state_told w ≡ next v.limits (state_told v) line
  pub limits : w.limits ≡ v.limits

-- in the state that the view tells, each accepted write on the key is one of those that the page of each column has folded, and its transaction has
-- ended by the begin of the session's transaction
abbrev pub IsFoldedFor : View → ℕ → ℕ → Type 0
IsFoldedFor v s key = (column : ℕ) → column < v.limits.columns → AreFolded (state_told v) key column (knows v s).begin

-- a read of a key by a session of a crew that tells a state of the machine: where a transaction is open, and the key is folded for it, no word of
-- a tail record was loaded
abbrev pub SavesTails : View → View → ℕ → ℕ → Type 0
SavesTails v w s key = TellsState v → (knows v s).is_open ≡ true → IsFoldedFor v s key → LoadsNoTail v w s

-- the seat took stock of all words, and since then the session s has only looked
pub record TakesStock (v w : View) (s : ℕ) : Type 0 where
  pub between : View
  pub surveyed : Surveyed v between
  pub looks : OnlyLooks between w s

-- a history that extends what each session has seen, and has of each session its commits alone, in their order
pub record IsHistoryOfAll (v : View) (all : List Commit) : Type 0 where
  pub seen : (s : ℕ) → s < v.limits.sessions → Extends all (knows v s).seen
  pub mine : (s : ℕ) → s < v.limits.sessions → commits_of s all ≡ mine s (knows v s)
