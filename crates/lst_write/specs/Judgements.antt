-- What a session finds of a record's chain before it writes.
use Rattle.std.specs.Prelude.{◌≡◌, ◌≢◌, ℕ, ◌+◌, ◌<◌, ◌≤◌, List, ◌∷◌, ◌++◌, true, length, Option, None, Some}
use Rattle.lst_layout.specs.declared.limits.Limits.{Limits}
use Rattle.lst_layout.specs.Words.{shown}
use Rattle.lst_core_state.specs.declared.known.Known.{Known}
use Rattle.lst_core_state.specs.declared.facts.Find.TheVariants.{UnfinishedVersion}
use Rattle.lst_core_state.specs.State.{name_of}
use Rattle.lst_rule.specs.declared.view.View.{View}
use Rattle.lst_rule.specs.Rule.{knows, hosts}
use Rattle.lst_rule.specs.Copies.{Version, IsChainFrom, IsCopy}
use Rattle.lst_rule.specs.Seen.{sees, HasKey}
use Rattle.lst_rule.specs.Judging.{AreClosed, IsJudged, IsCommittedAt, WroteAt}
use Rattle.lst_rule.specs.Watching.{Watched}
use Rattle.lst_rule.specs.declared.store.Store.{Store}
use Rattle.lst_rule.specs.Seats.{Sitting}
use Rattle.lst_rule.specs.Stores.{IsSeatOf}
use Rattle.lst_write.specs.declared.judgement.JudgeFault.{JudgeFault}
use Rattle.lst_write.specs.declared.judgement.JudgeFault.TheVariants.{Newer, Unfinished}
use Rattle.lst_write.specs.Standings.{FoundSince, IsLive}

-- the facts have a copy of the record's chain, whose newest version has this number in its range
abbrev pub HasChain : Limits → Known → ℕ → ℕ → Type 0
HasChain l k rec head = (copy : List Version) × IsCopy l k.facts rec head copy

-- and its newest version that isn't closed is one that the open transaction of s sees
abbrev pub HasJudged : Limits → Known → ℕ → ℕ → ℕ → Type 0
HasJudged l k s rec head = (copy : List Version) × IsCopy l k.facts rec head copy × IsJudged k s copy

-- these are all versions of the record's chain, newest first: the transactions of those before c are closed
pub record Stops (l : Limits) (k : Known) (rec head : ℕ) (passed : List Version) (c : Version) (older : List Version) : Type 0 where
  pub copy : IsCopy l k.facts rec head (passed ++ c ∷ older)
  pub closed : AreClosed k.facts passed

-- the newest version that isn't closed has this tail record, and is one that the open transaction of s sees; or each version is closed
abbrev pub StopsAt : Limits → Known → ℕ → ℕ → ℕ → Option ℕ → Type 0
StopsAt l k s rec head None = (copy : List Version) × IsCopy l k.facts rec head copy × AreClosed k.facts copy
StopsAt l k s rec head (Some tail) = (passed : List Version) × (c : Version) × (older : List Version) × Stops l k rec head passed c older × (c.tail ≡ tail) × (sees k s c.writer ≡ true)

-- the newest version that isn't closed was committed at this time, which is above the begin. What was seen has that commit there, which
-- wrote the record's key
pub record FoundNewer (l : Limits) (k : Known) (rec head time : ℕ) : Type 0 where
  pub passed : List Version
  pub version : Version
  pub older : List Version
  pub stops : Stops l k rec head passed version older
  pub above : k.begin < time
  pub seen : time ≤ length k.seen
  pub committed : IsCommittedAt k.facts version time
  pub wrote : (key : ℕ) → HasKey k.facts rec key → WroteAt k.seen time version.writer key

-- the newest version that isn't closed is one by the transaction n of another session j, which the session s has found neither closed nor
-- committed by the clock since the view was v. Where the view knows each word, they say so
pub record FoundUnfinished (v w : View) (s rec head j n : ℕ) : Type 0 where
  pub passed : List Version
  pub version : Version
  pub older : List Version
  pub stops : Stops w.limits (knows w s) rec head passed version older
  pub writer : version.writer ≡ name_of j n
  pub other : j ≢ s
  pub found : FoundSince v w s (UnfinishedVersion (rec + 1) version.tail j n ((knows w s).begin + 1))
  pub live : w.whole ≡ true → IsLive (shown w.limits w.words) j n

abbrev pub FaultIs : View → View → ℕ → ℕ → ℕ → JudgeFault → Type 0
FaultIs v w s rec head (Newer time) = FoundNewer w.limits (knows w s) rec head time
FaultIs v w s rec head (Unfinished j n) = FoundUnfinished v w s rec head j n

-- the judge of the record's chain has passed some versions, which are closed, and comes to the one with the number n. It began with the
-- view v
pub record Judges (store : Store) (v : View) (seat : Sitting) (s rec head n : ℕ) : Type 0 where
  pub seat_of : IsSeatOf store seat
  pub host : hosts seat.view s ≡ true
  pub on : (knows seat.view s).is_open ≡ true
  pub watched : Watched v seat.view s
  pub passed : List Version
  pub rest : List Version
  pub copy : IsCopy seat.view.limits (knows seat.view s).facts rec head (passed ++ rest)
  pub closed : AreClosed (knows seat.view s).facts passed
  pub leads : IsChainFrom seat.view.limits (knows seat.view s).facts rec n rest
