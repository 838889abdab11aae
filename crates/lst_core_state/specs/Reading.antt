-- What a transaction that only reads may conclude, from one moment on, of the tails that are stored later.
use Rattle.std.specs.Prelude.{◌≡◌, ◌↔◌, ℕ, ◌+◌, ◌*◌, ◌/◌, ◌<◌, ◌≤◌, List, [], ◌∷◌, Bool, true, false, take, nat_lt, ◌&&◌}
use Rattle.lst_model.specs.declared.acts.Act.{Act}
use Rattle.lst_core_state.specs.Lists.{Has, acts, above}
use Rattle.lst_core_state.specs.declared.known.Known.{Known}
use Rattle.lst_core_state.specs.declared.events.Event.{Event}
use Rattle.lst_core_state.specs.declared.events.Event.TheVariants.{Look, Stamp}
use Rattle.lst_core_state.specs.declared.facts.Fact.{Fact}
use Rattle.lst_core_state.specs.Cells.{record_count, range_of}
use Rattle.lst_core_state.specs.Index.{is_placed}
use Rattle.lst_core_state.specs.State.{Core, name_of, writer_at, line, record_in, act_in, is_visible}
use Rattle.lst_core_state.specs.Step.{session_of}
use Rattle.lst_core_state.specs.Facts.{IsFact}
use Rattle.lst_core_state.specs.Runs.{Runs}
use Rattle.lst_core_state.specs.Sound.{Drawn, Sound}

-- ---- one who reads, and later moments

-- the session s has an open transaction, and no tail in hand whose start word is stored
pub record Reader (c : Core) (s : ℕ) : Type 0 where
  pub low : s < c.limits.sessions
  pub is_on : (c.known s).is_open ≡ true
  pub hand : (c.known s).hold.is_whole ≡ false

-- its transaction is the same, and so is what it sees of any key
pub record Alike (u v : Known) : Type 0 where
  pub number : v.number ≡ u.number
  pub begin : v.begin ≡ u.begin
  pub is_on : v.is_open ≡ u.is_open
  pub own : v.own ≡ u.own
  pub whole : v.hold.is_whole ≡ u.hold.is_whole
  pub front : take v.begin v.seen ≡ take u.begin u.seen

-- the state d comes later than c: whatever steps may find in c is so in d, and the session s reads on
pub record Later (c d : Core) (s : ℕ) : Type 0 where
  pub limits : d.limits ≡ c.limits
  pub facts : (f : Fact) → IsFact c.limits c.words f → IsFact d.limits d.words f
  pub alike : Alike (c.known s) (d.known s)

-- a load, or a stamp
abbrev pub IsReading : Event → Type 0
IsReading (Look s a) = Unit {0}
IsReading (Stamp s range n) = Unit {0}
IsReading e = ⊥

-- among these steps the session s makes none but loads and stamps
abbrev pub OnlyReads : ℕ → List Event → Type 0
OnlyReads s [] = Unit {0}
OnlyReads s (e ∷ es) = (session_of e ≡ s → IsReading e) × OnlyReads s es

-- while it makes none but loads and stamps, whatever the others do, every moment is a later one
abbrev pub RunsGoOn : Type 0
RunsGoOn = (c : Core) → Sound c → (s : ℕ) → Reader c s → (events : List Event) (d : Core) → Runs c events d → OnlyReads s events → Sound d × Later c d s

-- ---- seen means known

-- the transaction of the session s sees the tail t: it is stored, and its writer was committed by the begin, or is the transaction itself
pub record IsSeen (c : Core) (s t : ℕ) : Type 0 where
  pub stored : 0 < c.words.cells t 0
  pub visible : is_visible c.words (name_of s (c.known s).number) (c.known s).begin t ≡ true

-- in one state already: what is seen is on its record's chain, and isn't a tail in hand
pub record IsOnChain (c : Core) (rec t : ℕ) : Type 0 where
  pub low : rec < record_count c.limits
  pub placed : is_placed c.limits c.words.index rec ≡ true
  pub on : Has t (line c.limits c.words rec)

abbrev pub SeenIsOnChain : Type 0
SeenIsOnChain = (c : Core) → Sound c → (s : ℕ) → Reader c s → (t : ℕ) → IsSeen c s t → IsOnChain c (record_in c.limits c.words.cells t) t

-- the tail t was a version of the record rec in the state c: on its chain, drawn by then, and seen
pub record WasKnown (c : Core) (s rec t : ℕ) : Type 0 where
  pub low : rec < record_count c.limits
  pub on : Has t (line c.limits c.words rec)
  pub drawn : Drawn c.limits c.words.counts (range_of rec) t
  pub seen : IsSeen c s t

-- SEEN MEANS KNOWN: a tail that a reader sees at a later moment was on its record's chain already
abbrev pub SeenMeansKnown : Type 0
SeenMeansKnown = (c d : Core) → Sound c → Sound d → (s : ℕ) → Reader c s → Later c d s → (t : ℕ) → IsSeen d s t → WasKnown c s (record_in d.limits d.words.cells t) t

-- a version on a chain at a later moment: stored, by the same transaction, of the same record and with the same act, and seen exactly where it was
pub record Stays (c d : Core) (s rec t : ℕ) : Type 0 where
  pub drawn : Drawn c.limits c.words.counts (range_of rec) t
  pub stored : 0 < d.words.cells t 0
  pub on : Has t (line d.limits d.words rec)
  pub here : record_in d.limits d.words.cells t ≡ rec
  pub by : writer_at d.words t ≡ writer_at c.words t
  pub act : act_in d.limits d.words.cells t ≡ act_in c.limits c.words.cells t
  pub visible : is_visible d.words (name_of s (d.known s).number) (d.known s).begin t ≡ is_visible c.words (name_of s (c.known s).number) (c.known s).begin t

-- and conversely each version on a chain stays one, and has a number that was drawn
abbrev pub KnownStays : Type 0
KnownStays = (c d : Core) → Sound c → Sound d → (s : ℕ) → Reader c s → Later c d s → (rec t : ℕ) → rec < record_count c.limits → Has t (line c.limits c.words rec) → Stays c d s rec t

-- ---- all tails of a range, by number

-- each tail is looked at in a state of its own, all later than c. These are the tails above `low`, and told are those of the record rec that were
-- seen where they were looked at; m is so great that no tail of the record's range was drawn above in c
pub record LooksAtTails (c : Core) (s rec low m : ℕ) (moment : ℕ → Core) (told : ℕ → Bool) : Type 0 where
  pub sound : (t : ℕ) → Sound (moment t)
  pub later : (t : ℕ) → Later c (moment t) s
  pub all : (t : ℕ) → Drawn c.limits c.words.counts (range_of rec) t → t ≤ low + m
  pub is : (t : ℕ) → low < t → t ≤ low + m → (told t ≡ true) ↔ (IsSeen (moment t) s t × (record_in (moment t).limits (moment t).words.cells t ≡ rec))

-- what a tail did where it was looked at
abbrev pub act_then : (ℕ → Core) → ℕ → Act
act_then moment t = act_in (moment t).limits (moment t).words.cells t

-- the acts of those that were told, by rising number, are those of the seen versions of the record's chain in c above `low`, oldest first
abbrev pub TailsTellChains : Type 0
TailsTellChains = (c : Core) → Sound c → (s : ℕ) → Reader c s → (rec low m : ℕ) (moment : ℕ → Core) (told : ℕ → Bool) → rec < record_count c.limits → LooksAtTails c s rec low m moment told
    → acts told (act_then moment) (above low m)
    ≡ acts (λ t. nat_lt low t && is_visible c.words (name_of s (c.known s).number) (c.known s).begin t) (act_in c.limits c.words.cells) (line c.limits c.words rec)

-- ---- where nobody has a tail in hand

-- each tail that was drawn is then stored and on the chain of a record of its range, whose indirection word names a number that is no less
pub record IsChained (c : Core) (range t : ℕ) : Type 0 where
  pub rec : ℕ
  pub low : rec < record_count c.limits
  pub here : range_of rec ≡ range
  pub on : Has t (line c.limits c.words rec)
  pub stored : 0 < c.words.cells t 0
  pub head : t ≤ range * c.limits.tails + c.words.heads rec / 2

abbrev pub DrawnAreChained : Type 0
DrawnAreChained = (c : Core) → Sound c → ((s : ℕ) → s < c.limits.sessions → (c.known s).hold.tail ≡ 0) → (range t : ℕ) → range < c.limits.ranges → Drawn c.limits c.words.counts range t → IsChained c range t
