-- The status of a version, and what a session learns while it asks for it.
use Rattle.std.specs.Prelude.{◌≡◌, ◌⊎◌, ℕ, ◌+◌, ◌-◌, ◌/◌, ◌%◌, ◌^◌, ◌<◌, ◌≤◌, List, [], ◌∷◌, ◌++◌, length, cond, eqb, true}
use Rattle.std.specs.List.{Contains}
use Rattle.lst_layout.specs.declared.limits.Limits.{Limits}
use Rattle.lst_layout.specs.Words.{Words, shown}
use Rattle.lst_layout.specs.declared.place.Place.TheVariants.{StateWord}
use Rattle.lst_layout.specs.Addresses.{IsWithin}
use Rattle.lst_bits.specs.declared.starts.Start.{Start}
use Rattle.lst_bits.specs.declared.starts.Start.TheVariants as start
use Rattle.lst_model.specs.Histories.{Extends}
use Rattle.lst_core_state.specs.declared.facts.Fact.{Fact}
use Rattle.lst_core_state.specs.declared.facts.Fact.TheVariants.{StateAt}
use Rattle.lst_core_state.specs.declared.known.Known.{Known}
use Rattle.lst_core_state.specs.declared.facts.Find.{Find}
use Rattle.lst_core_state.specs.Facts.{active_find, unfinished}
use Rattle.lst_core_state.specs.State.{mine}
use Rattle.lst_core_state.specs.Step.{refreshed}
use Rattle.lst_rule.specs.declared.view.View.{View}
use Rattle.lst_rule.specs.Rule.{knows}
use Rattle.lst_rule.specs.Learned.{Learns, Kept}
use Rattle.lst_rule.specs.Stores.{Looked, Clocked}
use Rattle.lst_rule.specs.declared.status.Status.{Status}
use Rattle.lst_rule.specs.declared.status.Status.TheVariants.{Empty, Unfinished, Closed, Committed}

-- an odd start word names a transaction of the store
abbrev pub IsNamed : Limits → ℕ → Type 0
IsNamed l start = start % 2 ≡ 1 → IsWithin l (StateWord (start / 2 % 16) (start / 2 / 16))

-- what is known once the state word of the number n of the session j was found as x
abbrev pub stated : Known → ℕ → ℕ → ℕ → Known
stated k j n x = record k { facts = k.facts ++ cond (eqb x 0) [] (StateAt j n x ∷ []); finds = k.finds ++ active_find k j n x; looks = record k.looks { state = x; session = j; number = n } }

-- the clock was loaded, and found as this
pub record Reads (v w : View) (s : ℕ) : Type 0 where
  pub clock : ℕ
  pub load : Clocked v w s clock

-- of a transaction that was found committed at the time t
abbrev pub SaysCommitted : View → View → ℕ → ℕ → ℕ → ℕ → Status → Type 0
SaysCommitted v w s j n t (Committed time) = (time ≡ t) × (t ≤ length (knows w s).seen) × (t < 2 ^ 32) × ((w ≡ v) ⊎ Reads v w s)
SaysCommitted v w s j n t (Unfinished session number) = (session ≡ j) × (number ≡ n) × (length (knows w s).seen < t) × Reads v w s
SaysCommitted v w s j n t status = ⊥

-- the state word of the transaction was found as x, and nothing else was loaded
pub record SaysAt (v w : View) (s j n x : ℕ) : Type 0 where
  pub load : Looked v w s (StateWord j n) x
  pub view : Learns v w s (stated (knows v s) j n x)

-- it was found as x, a commit's: between is the view then
pub record SaysAfter (v w : View) (s j n x : ℕ) (status : Status) : Type 0 where
  pub between : View
  pub state : SaysAt v between s j n x
  pub above : 1 < x
  pub says : SaysCommitted between w s j n (x - 1) status

abbrev pub Says : View → View → ℕ → ℕ → ℕ → Status → Type 0
Says v w s j n Empty = ⊥
Says v w s j n Closed = SaysAt v w s j n 1
Says v w s j n (Committed time) = SaysAfter v w s j n (time + 1) (Committed time)
Says v w s j n (Unfinished session number) = (session ≡ j) × (number ≡ n) × (SaysAt v w s j n 0 ⊎ ((x : ℕ) × SaysAfter v w s j n x (Unfinished session number)))

-- ---- what the session has of it

-- the find was made since the session knew u
abbrev pub FoundSince : Known → Known → Find → Type 0
FoundSince u v f = (more : List Find) × (v.finds ≡ u.finds ++ more) × Contains more f

-- the transaction, number n of the session j, is known to be committed at this time, which was seen
pub record KnownCommitted (v : Known) (j n time : ℕ) : Type 0 where
  pub some : 0 < time
  pub few : time < 2 ^ 32
  pub seen : time ≤ length v.seen
  pub fact : Contains v.facts (StateAt j n (time + 1))

-- since the session s knew u, the transaction was found neither closed nor committed by the clock. So it is no transaction of s before
-- its last one
pub record KnownUnfinished (u v : Known) (s j n : ℕ) : Type 0 where
  pub found : FoundSince u v (unfinished u j n)
  pub last : j ≡ s → u.number ≤ n

-- the status of the transaction, as the session s knows it, which knew u before it asked
abbrev pub IsKnownAs : Known → Known → ℕ → ℕ → ℕ → Status → Type 0
IsKnownAs u v s j n Empty = ⊥
IsKnownAs u v s j n Closed = Contains v.facts (StateAt j n 1)
IsKnownAs u v s j n (Committed time) = KnownCommitted v j n time
IsKnownAs u v s j n (Unfinished session number) = (session ≡ j) × (number ≡ n) × KnownUnfinished u v s j n

-- and as the words have it
abbrev pub IsStoredAs : Words → ℕ → ℕ → Status → Type 0
IsStoredAs w j n Empty = ⊥
IsStoredAs w j n Closed = w.states j n ≡ 1
IsStoredAs w j n (Committed time) = (0 < time) × (time ≤ w.clock) × (w.states j n ≡ time + 1)
IsStoredAs w j n (Unfinished session number) = (w.states j n ≡ 0) ⊎ (w.clock + 1 < w.states j n)

-- the session s has asked for the status of the transaction, number n of the session j: by which loads, what it knows of it since, and
-- what the words are, where the view knows each
pub record Answers (v w : View) (s j n : ℕ) (status : Status) : Type 0 where
  pub says : Says v w s j n status
  pub known : IsKnownAs (knows v s) (knows w s) s j n status
  pub stored : w.whole ≡ true → IsStoredAs (shown w.limits w.words) j n status

-- by what the start word says
abbrev pub StatusOf : Start → View → View → ℕ → Status → Type 0
StatusOf start.Empty v w s status = (status ≡ Empty) × (w ≡ v)
StatusOf (start.At time) v w s status = (status ≡ Committed time) × (w ≡ v)
StatusOf (start.By j n) v w s status = Answers v w s j n status

-- whatever the answer: of the sessions and the merger only s learnt something, that is facts, finds and commits, and which words
-- it loaded last; where it had the turn, the clock may be loaded in it. No word was stored
pub record Asked (v w : View) (s : ℕ) : Type 0 where
  pub facts : List Fact
  pub finds : List Find
  pub view : let k = knows v s in Learns v w s (record k { seen = (knows w s).seen; turn = (knows w s).turn; facts = k.facts ++ facts; finds = k.finds ++ finds; looks = (knows w s).looks })
  pub grows : Extends (knows w s).seen (knows v s).seen
  pub turn : ((knows w s).turn ≡ (knows v s).turn) ⊎ ((knows w s).turn ≡ refreshed (knows v s).turn)
  pub own : s < v.limits.sessions → mine s (knows w s) ≡ mine s (knows v s)
  pub kept : Kept v w
