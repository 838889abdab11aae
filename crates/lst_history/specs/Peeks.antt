-- What a session knows after it has only looked at words, where it had neither a record nor the turn in hand.
use Rattle.std.specs.Prelude.{◌≡◌, ℕ, ◌<◌, ◌≤◌, List, ◌++◌, true}
use Rattle.std.specs.List.{All, Contains}
use Rattle.lst_layout.specs.Words.{Words, shown}
use Rattle.lst_model.specs.declared.commits.Commit.{Commit}
use Rattle.lst_core_state.specs.declared.known.Known.{Known}
use Rattle.lst_core_state.specs.declared.known.Counter.{Counter}
use Rattle.lst_core_state.specs.declared.known.Looks.{Looks}
use Rattle.lst_core_state.specs.declared.pages.SessionFrames.{SessionFrames}
use Rattle.lst_core_state.specs.declared.facts.Fact.{Fact}
use Rattle.lst_core_state.specs.declared.facts.Find.{Find}
use Rattle.lst_core_state.specs.declared.facts.Find.TheVariants.{FullRecords, FullTails}
use Rattle.lst_core_state.specs.State.{mine, rank}
use Rattle.lst_rule.specs.declared.view.View.{View}
use Rattle.lst_rule.specs.Rule.{knows, hosts}
use Rattle.lst_rule.specs.Learned.{Learns, Kept}
use Rattle.lst_rule.specs.declared.store.Store.{Store}
use Rattle.lst_rule.specs.Seats.{Sitting}
use Rattle.lst_rule.specs.Stores.{IsSeatOf}
use Rattle.lst_rule.specs.Surveys.{Surveyed}

-- a find of anything else than that the record counter was full
abbrev pub IsNotFullTable : Find → Type 0
IsNotFullTable FullRecords = ⊥
IsNotFullTable f = Unit {0}

-- v is u with more facts, finds and commits seen, other words loaded last, other loads of tail counters, and maybe pages taken in hand. The record counter wasn't
-- found full, and the pin is the same
pub record Peeked (u v : Known) : Type 0 where
  pub facts : List Fact
  pub finds : List Find
  pub later : List Commit
  pub looks : Looks
  pub counters : List Counter
  pub frames : SessionFrames
  pub is : v ≡ record u { seen = u.seen ++ later; counters = counters; facts = u.facts ++ facts; finds = u.finds ++ finds; looks = looks; pages = record u.pages { session = frames } }
  pub room : All IsNotFullTable finds
  pub pin : frames.pin ≡ u.pages.session.pin

-- of the sessions and the merger only s has looked, and what it has committed stays, as do the words that the view knows
pub record Peeks (v w : View) (s : ℕ) : Type 0 where
  pub learns : Learns v w s (knows w s)
  pub kept : Kept v w
  pub peeked : Peeked (knows v s) (knows w s)
  pub own : mine s (knows w s) ≡ mine s (knows v s)

-- the seat took stock of all words, as the view between has them, and the session s has only looked since. Each word is known now; where each
-- was before, these are the same. A range was found full only where it is
pub record Recounts (v w : View) (s : ℕ) : Type 0 where
  pub between : View
  pub surveyed : Surveyed v between
  pub peeks : Peeks between w s
  pub whole : w.whole ≡ true
  pub kept : Kept v w
  pub full : (range : ℕ) → Contains (knows w s).finds (FullTails range) → w.limits.tails ≤ (shown w.limits w.words).counts range

-- the words that a view knows
abbrev pub words_in : View → Words
words_in v = shown v.limits v.words

-- the seat is the store's, knows each word, and hosts the session s, which has neither a record nor the turn in hand
pub record IsReader (store : Store) (seat : Sitting) (s : ℕ) : Type 0 where
  pub seat_of : IsSeatOf store seat
  pub host : hosts seat.view s ≡ true
  pub own : s < seat.view.limits.sessions
  pub whole : seat.view.whole ≡ true
  pub hand : (knows seat.view s).placing.hand ≡ 0
  pub turn : rank (knows seat.view s).turn ≡ 0

-- the session has only looked, and the seat knows the same words
pub record Reads (store : Store) (a b : Sitting) (s : ℕ) : Type 0 where
  pub reader : IsReader store b s
  pub peeks : Peeks a.view b.view s
  pub limits : b.view.limits ≡ a.view.limits
  pub words : b.view.words ≡ a.view.words
