-- What a session at the serializable level keeps of its reads, and what its commits answer.
use Rattle.std.specs.Prelude.{◌≡◌, ◌≢◌, ℕ, ◌+◌, ◌<◌, [], ◌∷◌, ◌++◌, List, Bool, true, false, length, Option, Some, None}
use Rattle.lst_model.specs.declared.commits.Commit.{Commit}
use Rattle.lst_model.specs.Histories.{Extends}
use Rattle.lst_layout.specs.declared.place.Place.TheVariants.{CommitWord}
use Rattle.lst_core_state.specs.Writes.{commit}
use Rattle.lst_core_state.specs.declared.events.Event.TheVariants.{Give}
use Rattle.lst_core_state.specs.declared.facts.Find.TheVariants.{FreshClock}
use Rattle.lst_core_state.specs.declared.known.Known.{Known}
use Rattle.lst_core_state.specs.State.{rank}
use Rattle.lst_rule.specs.declared.view.View.{View}
use Rattle.lst_rule.specs.Rule.{knows, hosts}
use Rattle.lst_rule.specs.Learned.{Made}
use Rattle.lst_write.specs.Standings.{FoundSince}
use Rattle.lst_changes.specs.Changes.{IsUnwrittenAfter, Changed}
use Rattle.lst_session.specs.Calls.{OnlyLooks, FindsNoneFull, Commits}
use Rattle.lst_session.specs.Held.{HasSeenHistory, LooksStill, TakesTurn, CommitsNext}
use Rattle.lst_serial.specs.declared.keys.KeySet.{KeySet}
use Rattle.lst_serial.specs.Keys.{has, Joins, SameKeys}
use Rattle.lst_serial_laws.specs.Places.{IsUnchanged, IsInPlace}

-- ---- the read set

-- where a transaction is open the key joins the read set, and else that stays
pub record JoinsWhereOpen (k : Known) (old new : KeySet) (key : ℕ) : Type 0 where
  pub open_joins : k.is_open ≡ true → Joins old new key
  pub idle_stays : k.is_open ≡ false → SameKeys old new

-- ---- the check at a commit, of the history that was seen

-- the least of the keys that a commit above the begin wrote, and the last time at which one did
pub record FirstChanged (k : Known) (keys : KeySet) (time : ℕ) : Type 0 where
  pub key : ℕ
  pub read : has keys key ≡ true
  pub changed : Changed k.seen k.begin key (Some time)
  pub least : (other : ℕ) → other < key → has keys other ≡ true → IsUnwrittenAfter k.seen k.begin other

-- nothing that was read was changed since the begin. Or, where all keys were read, there is a commit above the begin, and the time is the one after the
-- begin; and else the least key that was changed was, at this time last
abbrev pub IsStaleAt : Known → KeySet → Bool → Option ℕ → Type 0
IsStaleAt k keys all None = IsUnchanged (has keys) all k.seen k.begin
IsStaleAt k keys true (Some time) = (k.begin < length k.seen) × (time ≡ k.begin + 1)
IsStaleAt k keys false (Some time) = FirstChanged k keys time

-- ---- with the turn in hand

-- it was spent on the commit at the time, with nothing changed
pub record SpendsOnCommit (held w : View) (s : ℕ) (keys : KeySet) (all : Bool) (time : ℕ) : Type 0 where
  pub asked : View
  pub still : LooksStill held asked s
  pub unchanged : IsStaleAt (knows held s) keys all None
  pub commits : CommitsNext asked w s time

-- it was given back by the last step, with something changed
pub record GivesBackStale (held w : View) (s : ℕ) (keys : KeySet) (all : Bool) (time : ℕ) : Type 0 where
  pub asked : View
  pub asks : LooksStill held asked s
  pub stale : IsStaleAt (knows held s) keys all (Some time)
  pub gives : Made asked w (Give s) CommitWord 0
  pub still : LooksStill held w s

-- ---- commits

-- the transaction is the commit at the time, the next one of a history in which nothing that was read was changed since the begin. While the commit word
-- was held, that was the whole history. So it is at its serial place in the history with it, and in each longer one
pub record CommitsInPlace (v w : View) (s : ℕ) (keys : KeySet) (all : Bool) (time : ℕ) : Type 0 where
  pub commits : Commits v w s time
  pub held : View
  pub takes : TakesTurn v held s
  pub whole : HasSeenHistory held s
  pub unchanged : IsStaleAt (knows held s) keys all None
  pub next : time ≡ length (knows held s).seen + 1
  pub seen : let k = knows v s in (knows w s).seen ≡ (knows held s).seen ++ commit s k.number k.begin k.own ∷ []
  pub place : (history : List Commit) → Extends history (knows w s).seen → IsInPlace (has keys) all history (knows v s).begin time

-- something that was read was found changed, in what was the whole history while the commit word was held: it was taken by one step, which found it free, and given
-- back by the last one, and the view between is possible. The clock was loaded meanwhile, and found as many commits as are seen. The transaction stays open
pub record FindsStale (v w : View) (s : ℕ) (keys : KeySet) (all : Bool) (time : ℕ) : Type 0 where
  pub looks : OnlyLooks v w s
  pub wrote : 0 < length (knows v s).own
  pub held : View
  pub takes : TakesTurn v held s
  pub whole : HasSeenHistory held s
  pub stale : IsStaleAt (knows held s) keys all (Some time)
  pub asked : View
  pub asks : LooksStill held asked s
  pub gives : Made asked w (Give s) CommitWord 0
  pub still : LooksStill held w s
  pub fresh : FoundSince v w s (FreshClock (length (knows w s).seen))
  pub room : FindsNoneFull v w s

-- then no other session that the seat hosts had the turn
abbrev pub StaleFoundItFree : Type 0
StaleFoundItFree = (v w : View) (s : ℕ) (keys : KeySet) (all : Bool) (time : ℕ) → FindsStale v w s keys all time → (t : ℕ) → t ≢ s → t < v.limits.sessions → hosts v t ≡ true → rank (knows v t).turn ≡ 0
