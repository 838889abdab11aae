-- What a session that holds the turn finds out of the last commit that wrote a key.
use Rattle.std.specs.Prelude.{◌≡◌, ◌≢◌, ◌⊎◌, ℕ, ◌+◌, ◌*◌, ◌/◌, ◌%◌, ◌<◌, ◌≤◌, List, [], ◌∷◌, ◌++◌, Bool, true, false, cond, length, take, drop, Option, Some, None}
use Rattle.std.specs.List.{Contains}
use Rattle.lst_layout.specs.declared.limits.Limits.{Limits}
use Rattle.lst_model.specs.declared.acts.Act.{Act}
use Rattle.lst_model.specs.declared.commits.Commit.{Commit}
use Rattle.lst_model.specs.Histories.{acts_on, all_acts_on}
use Rattle.lst_core_state.specs.declared.known.Known.{Known}
use Rattle.lst_core_state.specs.declared.facts.Fact.{Fact}
use Rattle.lst_core_state.specs.State.{rank}
use Rattle.lst_rule.specs.declared.view.View.{View}
use Rattle.lst_rule.specs.Rule.{knows, hosts}
use Rattle.lst_rule.specs.declared.store.Store.{Store}
use Rattle.lst_rule.specs.Seats.{Sitting}
use Rattle.lst_rule.specs.Stores.{IsSeatOf}
use Rattle.lst_rule.specs.Copies.{Version, fact_of, IsVersionOf, IsChainFrom}
use Rattle.lst_rule.specs.Seen.{names, act_by, HasKey}
use Rattle.lst_rule.specs.Judging.{IsCommittedAt}
use Rattle.lst_rule.specs.Watching.{Watched}

-- ---- of a history

-- the commit at the time wrote the key, and no later one did
pub record WroteLast (history : List Commit) (key time : ℕ) : Type 0 where
  pub before : List Commit
  pub commit : Commit
  pub rest : List Commit
  pub is : history ≡ before ++ commit ∷ rest
  pub place : length before + 1 ≡ time
  pub wrote : acts_on key commit.writes ≢ []
  pub last : all_acts_on key rest ≡ []

-- no commit after the time b wrote the key
abbrev pub IsUnwrittenAfter : List Commit → ℕ → ℕ → Type 0
IsUnwrittenAfter history b key = all_acts_on key (drop b history) ≡ []

-- the time of the last commit that wrote the key; none did
abbrev pub LastWrite : List Commit → ℕ → Option ℕ → Type 0
LastWrite history key None = all_acts_on key history ≡ []
LastWrite history key (Some time) = WroteLast history key time

-- the time of the last commit above b that wrote the key; none above b did
abbrev pub Changed : List Commit → ℕ → ℕ → Option ℕ → Type 0
Changed history b key None = IsUnwrittenAfter history b key
Changed history b key (Some time) = (b < time) × WroteLast history key time

-- ---- a session that holds the turn

-- it has loaded the clock since it took the turn, and not logged
abbrev pub IsFresh : Known → Type 0
IsFresh k = rank k.turn ≡ 2

-- the seat hosts the session s, which holds the turn for its open transaction
pub record IsHolder (store : Store) (seat : Sitting) (s : ℕ) : Type 0 where
  pub seat_of : IsSeatOf store seat
  pub host : hosts seat.view s ≡ true
  pub own : s < seat.view.limits.sessions
  pub on : (knows seat.view s).is_open ≡ true
  pub turn : IsFresh (knows seat.view s)

-- it has only looked, and seen no more commits
pub record Steady (v w : View) (s : ℕ) : Type 0 where
  pub watched : Watched v w s
  pub seen : (knows w s).seen ≡ (knows v s).seen
  pub turn : (knows w s).turn ≡ (knows v s).turn

-- ---- versions, by the history

-- no commit is of the version's transaction; or it is the commit at this time
pub record IsOf (k : Known) (c : Version) (time : ℕ) : Type 0 where
  pub some : 0 < time
  pub seen : time ≤ length k.seen
  pub committed : IsCommittedAt k.facts c time
  pub named : names (take time k.seen) c.writer ≡ true

abbrev pub TimeOf : Known → Version → Option ℕ → Type 0
TimeOf k c None = names k.seen c.writer ≡ false
TimeOf k c (Some time) = IsOf k c time

-- of the transaction of this name
abbrev pub NameTime : Known → ℕ → Option ℕ → Type 0
NameTime k name time = (c : Version) → c.writer ≡ name → TimeOf k c time

-- the facts have a version with this tail
abbrev pub IsVersion : Limits → Known → ℕ → Type 0
IsVersion l k tail = (rec : ℕ) × (c : Version) × IsVersionOf l rec c × Contains k.facts (fact_of c) × (c.tail ≡ tail)

-- each version of the facts with this tail
abbrev pub TailTime : Limits → Known → Known → ℕ → Option ℕ → Type 0
TailTime l u k tail time = (rec : ℕ) (c : Version) → IsVersionOf l rec c → Contains u.facts (fact_of c) → c.tail ≡ tail → TimeOf k c time

-- the acts of the versions that these commits made, oldest first. The versions stand newest first
abbrev pub named_acts : List Commit → List Version → List Act
named_acts commits [] = []
named_acts commits (c ∷ cs) = cond (names commits c.writer) (named_acts commits cs ++ act_by c ∷ []) (named_acts commits cs)

-- each version that the history made was made by the time t
abbrev pub AreBy : List Commit → ℕ → List Version → Type 0
AreBy history t [] = Unit {0}
AreBy history t (c ∷ cs) = (names history c.writer ≡ true → names (take t history) c.writer ≡ true) × AreBy history t cs

-- under a version that was made by a time, all were
abbrev pub Descend : List Commit → List Version → Type 0
Descend history [] = Unit {0}
Descend history (c ∷ cs) = ((t : ℕ) → t ≤ length history → names (take t history) c.writer ≡ true → AreBy history t cs) × Descend history cs

-- the versions are those of the history on the key
pub record AreHistory (history : List Commit) (key : ℕ) (copy : List Version) : Type 0 where
  pub acts : (b : ℕ) → b ≤ length history → named_acts (take b history) copy ≡ all_acts_on key (take b history)
  pub descend : Descend history copy

-- no version was made by the history
abbrev pub AreUnmade : List Commit → List Version → Type 0
AreUnmade history [] = Unit {0}
AreUnmade history (c ∷ cs) = (names history c.writer ≡ false) × AreUnmade history cs

-- the walk has passed some versions, which the history didn't make, and comes to the one with the number n. It began with the view v
pub record Walk (store : Store) (v : View) (seat : Sitting) (s rec n : ℕ) : Type 0 where
  pub holder : IsHolder store seat s
  pub steady : Steady v seat.view s
  pub low : rec < 256 * seat.view.limits.ranges
  pub passed : List Version
  pub rest : List Version
  pub unmade : AreUnmade (knows seat.view s).seen passed
  pub leads : IsChainFrom seat.view.limits (knows seat.view s).facts rec n rest
  pub told : (key : ℕ) → HasKey (knows v s).facts rec key → AreHistory (knows seat.view s).seen key (passed ++ rest)
