-- How a version of a record stands to the open transaction of a session that is to write above it.
use Rattle.std.specs.Prelude.{◌≡◌, ◌≢◌, ◌⊎◌, ℕ, ◌+◌, ◌*◌, ◌/◌, ◌%◌, ◌<◌, ◌≤◌, List, ◌++◌, true, cond, nat_le, length}
use Rattle.std.specs.List.{Contains}
use Rattle.lst_core_state.specs.declared.known.Known.{Known}
use Rattle.lst_core_state.specs.declared.facts.Fact.TheVariants.{CommitAt}
use Rattle.lst_core_state.specs.declared.facts.Find.{Find}
use Rattle.lst_core_state.specs.declared.facts.Find.TheVariants.{UnfinishedVersion}
use Rattle.lst_core_state.specs.State.{name_of}
use Rattle.lst_layout.specs.declared.limits.Limits.{Limits}
use Rattle.lst_layout.specs.Words.{Words, shown}
use Rattle.lst_rule.specs.declared.view.View.{View}
use Rattle.lst_rule.specs.Rule.{knows}
use Rattle.lst_rule.specs.Copies.{Version, fact_of, IsVersionOf}
use Rattle.lst_rule.specs.Seen.{sees}
use Rattle.lst_rule.specs.Judging.{IsClosed, IsCommittedAt}
use Rattle.lst_rule.specs.Loads.{StartFound}
use Rattle.lst_write.specs.declared.standing.Standing.{Standing}
use Rattle.lst_write.specs.declared.standing.Standing.TheVariants.{Seen, Closed, Newer, Unfinished}

-- the session s has made this find since it had the view v
pub record FoundSince (v w : View) (s : ℕ) (f : Find) : Type 0 where
  pub more : List Find
  pub grows : (knows w s).finds ≡ (knows v s).finds ++ more
  pub here : Contains more f

-- the version is committed at a time above the begin, which the session has seen
pub record IsNewer (k : Known) (c : Version) (time : ℕ) : Type 0 where
  pub above : k.begin < time
  pub seen : time ≤ length k.seen
  pub committed : IsCommittedAt k.facts c time

-- the transaction, number n of the session j, is neither closed nor committed by the clock
abbrev pub IsLive : Words → ℕ → ℕ → Type 0
IsLive w j n = (w.states j n ≡ 0) ⊎ (w.clock + 1 < w.states j n)

-- the version's transaction, number n of another session j, was found neither closed nor committed by the clock since the view was v.
-- Where the view knows each word, they say so
pub record IsUnfinished (v w : View) (s rec : ℕ) (c : Version) (j n : ℕ) : Type 0 where
  pub session : j ≡ c.writer % 16
  pub number : n ≡ c.writer / 16
  pub other : j ≢ s
  pub found : FoundSince v w s (UnfinishedVersion (rec + 1) c.tail j n ((knows w s).begin + 1))
  pub live : w.whole ≡ true → IsLive (shown w.limits w.words) j n

-- how the version c of the record stands, as found since the view was v
abbrev pub IsStanding : View → View → ℕ → ℕ → Version → Standing → Type 0
IsStanding v w s rec c Seen = sees (knows w s) s c.writer ≡ true
IsStanding v w s rec c Closed = IsClosed (knows w s).facts c
IsStanding v w s rec c (Newer time) = IsNewer (knows w s) c time
IsStanding v w s rec c (Unfinished j n) = IsUnfinished v w s rec c j n

-- a version that is committed at a time which was seen
abbrev pub standing_at : ℕ → ℕ → Standing
standing_at begin time = cond (nat_le time begin) Seen (Newer time)

-- some version is stamped with the time
abbrev pub IsStamp : Known → ℕ → Type 0
IsStamp k time = (name : ℕ) × Contains k.facts (CommitAt time (name % 16) (name / 16))

-- each version that is known to be stamped with the time stands so
abbrev pub StandsAt : View → View → ℕ → ℕ → Standing → Type 0
StandsAt v w s time standing = (rec : ℕ) (c : Version) → Contains (knows v s).facts (CommitAt time (c.writer % 16) (c.writer / 16)) → IsStanding v w s rec c standing

-- the transaction, number n of the session j, is not the open one of the session s, and was begun
pub record IsOther (k : Known) (s j n : ℕ) : Type 0 where
  pub name : name_of j n ≢ name_of s k.number
  pub begun : j ≡ s → n ≤ k.number

-- each version of the transaction of this name, whose start word was loaded last before the view was v, stands so
abbrev pub StandsBy : View → View → ℕ → ℕ → Standing → Type 0
StandsBy v w s name standing = (rec : ℕ) (c : Version) → StartFound (knows v s) rec c (1 + 2 * c.writer) → c.writer ≡ name → IsStanding v w s rec c standing

-- the facts have a version with this tail
abbrev pub IsVersion : Limits → Known → ℕ → Type 0
IsVersion l k tail = (rec : ℕ) × (c : Version) × IsVersionOf l rec c × Contains k.facts (fact_of c) × (c.tail ≡ tail)

-- each version with this tail that the facts have stands so
abbrev pub Stands : View → View → ℕ → ℕ → Standing → Type 0
Stands v w s tail standing = (rec : ℕ) (c : Version) → IsVersionOf v.limits rec c → Contains (knows v s).facts (fact_of c) → c.tail ≡ tail → IsStanding v w s rec c standing

-- where the view knows each word: the tail record's start word is that of the open transaction, or has a commit time
abbrev pub IsSettled : View → ℕ → ℕ → Type 0
IsSettled w s tail = w.whole ≡ true → ((shown w.limits w.words).cells tail 0 ≡ 1 + 2 * name_of s (knows w s).number) ⊎ ((shown w.limits w.words).cells tail 0 % 2 ≡ 0)

-- so is that of a version that is seen
abbrev pub SettledAs : View → ℕ → ℕ → Standing → Type 0
SettledAs w s tail Seen = IsSettled w s tail
SettledAs w s tail Closed = Unit {0}
SettledAs w s tail (Newer time) = Unit {0}
SettledAs w s tail (Unfinished j n) = Unit {0}
