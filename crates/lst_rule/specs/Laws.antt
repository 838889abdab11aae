-- What a session may conclude from the facts that it has of a record's chain.
use Rattle.std.specs.Prelude.{◌≡◌, ◌≢◌, ◌⊎◌, ◌↔◌, ℕ, ◌+◌, ◌*◌, ◌/◌, ◌%◌, ◌<◌, ◌≤◌, List, [], ◌∷◌, ◌++◌, true, false, length, take, nat_le, None}
use Rattle.std.specs.List.{Contains}
use Rattle.lst_layout.specs.declared.limits.Limits.{Limits}
use Rattle.lst_layout.specs.declared.place.Place.{Place}
use Rattle.lst_layout.specs.declared.place.Place.TheVariants.{StateWord, HeadWord, TailCounter, CellWord}
use Rattle.lst_layout.specs.Addresses.{address, IsWithin}
use Rattle.lst_layout.specs.Words.{shown}
use Rattle.lst_model.specs.Histories.{Extends}
use Rattle.lst_model.specs.Soundness.{FitInTurn}
use Rattle.lst_core_state.specs.Lists.{is_until}
use Rattle.lst_core_state.specs.declared.known.Known.{Known}
use Rattle.lst_core_state.specs.declared.events.Event.TheVariants.{Look, Latch, DrawTail, Stamp}
use Rattle.lst_core_state.specs.declared.facts.Fact.{Fact}
use Rattle.lst_core_state.specs.declared.facts.Fact.TheVariants.{StateAt, CommitAt}
use Rattle.lst_core_state.specs.declared.facts.Find.{Find}
use Rattle.lst_core_state.specs.declared.facts.Find.TheVariants.{UnfinishedVersion}
use Rattle.lst_core_state.specs.Cells.{record_count, tail_count, range_of}
use Rattle.lst_core_state.specs.Facts.{unfinished}
use Rattle.lst_core_state.specs.State.{entry, name_of, sight}
use Rattle.lst_core_state.specs.Laws.{Names}
use Rattle.lst_rule.specs.declared.view.View.{View}
use Rattle.lst_rule.specs.Rule.{knows, hosts, Allowed}
use Rattle.lst_rule.specs.Learned.{Possible, CanStand, Times, Made, Met}
use Rattle.lst_rule.specs.PageSteps.{PageLooked}
use Rattle.lst_rule.specs.Copies.{Version, fact_of, IsVersionOf, IsChainFrom, IsCopy, Includes}
use Rattle.lst_rule.specs.Seen.{is_early, sees, IsSight, SeesAlike, HasKey}
use Rattle.lst_rule.specs.Judging.{AreClosed, IsJudged, IsCommittedAt, WroteAt}
use Rattle.lst_rule.specs.Watching.{SamePins, Watched, IsWatched}
use Rattle.lst_rule.specs.Loads.{ChainFound, StartFound, WordFound, StateFound}

-- ---- the copy of a chain

-- a load of a record's indirection word finds its whole chain, and so does a latch
abbrev pub LoadsFindChains : Type 0
LoadsFindChains = (v w : View) (s rec x : ℕ) → hosts v s ≡ true → rec < record_count v.limits → Met v w (Look s (address v.limits (HeadWord rec))) (HeadWord rec) x x → ChainFound w.limits (knows w s) s rec (x / 2)

abbrev pub LatchesFindChains : Type 0
LatchesFindChains = (v w : View) (s rec x y : ℕ) → hosts v s ≡ true → Met v w (Latch s rec) (HeadWord rec) x y → ChainFound w.limits (knows w s) s rec (y / 2)

-- and a load of a tail counter, by a session that has a transaction open and no latch, finds those of all records of the range: no number on them is greater
abbrev pub RangesAreFound : Type 0
RangesAreFound = (v w : View) (s range x rec : ℕ) → hosts v s ≡ true → (knows v s).is_open ≡ true → (knows v s).hold.latch ≡ 0 → range < v.limits.ranges → Met v w (Look s (address v.limits (TailCounter range))) (TailCounter range) x x
    → rec < record_count v.limits → range_of rec ≡ range → (head : ℕ) × (head ≤ x) × ChainFound w.limits (knows w s) s rec head

-- it has a first version exactly where the number isn't 0; the others are then the chain from its back word on
pub record FromNumber (l : Limits) (facts : List Fact) (rec n : ℕ) (versions : List Version) : Type 0 where
  pub none : n ≡ 0 → versions ≡ []
  pub some : 0 < n → (c : Version) × (older : List Version) × (versions ≡ c ∷ older) × IsVersionOf l rec c × Contains facts (fact_of c) × (c.tail ≡ range_of rec * l.tails + n) × (n ≤ l.tails) × (c.back < n) × IsChainFrom l facts rec c.back older

abbrev pub ChainsAreWalked : Type 0
ChainsAreWalked = (l : Limits) (facts : List Fact) (rec n : ℕ) (versions : List Version) → IsChainFrom l facts rec n versions → FromNumber l facts rec n versions

-- with more facts it stays
abbrev pub CopiesStay : Type 0
CopiesStay = (l : Limits) (facts more : List Fact) (rec head : ℕ) (copy : List Version) → Includes more facts → IsCopy l facts rec head copy → IsCopy l more rec head copy

-- ---- what is seen of it

-- a transaction sees what was committed by its begin, by name, and what is its own
abbrev pub SeenIsByName : Type 0
SeenIsByName = (v : Known) (s x : ℕ) → (sees v s x ≡ true) ↔ ((x ≡ name_of s v.number) ⊎ Names (take v.begin v.seen) (x % 16) (x / 16))

-- while the transaction and what it wrote are the same, so is what it sees, whatever happens to the words
abbrev pub SightsStay : Type 0
SightsStay = (u v : Known) (s key : ℕ) (versions : List Version) → SeesAlike u v → IsSight u s key versions → IsSight v s key versions

-- each act of a sight fits the row that those before it make
abbrev pub SightsFit : Type 0
SightsFit = (v : View) (s rec key : ℕ) → Possible v → hosts v s ≡ true → (knows v s).is_open ≡ true → HasKey (knows v s).facts rec key → FitInTurn None (sight (knows v s) key)

-- ---- what statuses tell

-- in each state that the view allows, a transaction is early exactly where its state word says so
abbrev pub StatesTell : Type 0
StatesTell = (v : View) (s x : ℕ) → hosts v s ≡ true → (knows v s).is_open ≡ true → x % 16 < v.limits.sessions → (words : List ℕ) (known : ℕ → Known) (merger : Known) → Allowed v words known merger
    → is_early (knows v s) x ≡ is_until (knows v s).begin (entry (shown v.limits words).states x)

-- what the facts and the finds of the session s say of the transaction x
pub record Statuses (v : View) (s x : ℕ) : Type 0 where
  -- closed: not early, and not the open one
  pub closed : Contains (knows v s).facts (StateAt (x % 16) (x / 16) 1) → (is_early (knows v s) x ≡ false) × (x ≢ name_of s (knows v s).number)
  -- committed: early exactly where the time is at most the begin, whatever the clock
  pub committed : (time : ℕ) → 0 < time → Contains (knows v s).facts (StateAt (x % 16) (x / 16) (time + 1)) → is_early (knows v s) x ≡ nat_le time (knows v s).begin
  -- and so by a stamp, which is never the open one's
  pub stamped : (time : ℕ) → Contains (knows v s).facts (CommitAt time (x % 16) (x / 16)) → (is_early (knows v s) x ≡ nat_le time (knows v s).begin) × (x ≢ name_of s (knows v s).number)
  -- unfinished, found since the begin or before it: not early
  pub unfinished : (about tail : ℕ) → Contains (knows v s).finds (UnfinishedVersion about tail (x % 16) (x / 16) ((knows v s).begin + 1)) → is_early (knows v s) x ≡ false

abbrev pub StatusesTell : Type 0
StatusesTell = (v : View) (s x : ℕ) → Possible v → hosts v s ≡ true → (knows v s).is_open ≡ true → x % 16 < v.limits.sessions → Statuses v s x

-- ---- what loads of versions tell

abbrev pub StartsAreFound : Type 0
StartsAreFound = (v w : View) (s rec x : ℕ) (c : Version) → hosts v s ≡ true → IsVersionOf v.limits rec c → Contains (knows v s).facts (fact_of c)
    → Met v w (Look s (address v.limits (CellWord c.tail 0))) (CellWord c.tail 0) x x → StartFound (knows w s) rec c x

-- and where nothing is known of the tail yet: a start word that isn't 0 is a version's, which is known then
pub record TailFound (w : View) (s tail x : ℕ) : Type 0 where
  pub rec : ℕ
  pub version : Version
  pub at : version.tail ≡ tail
  pub is : IsVersionOf w.limits rec version
  pub known : Contains (knows w s).facts (fact_of version)
  pub start : StartFound (knows w s) rec version x

abbrev pub TailsAreFound : Type 0
TailsAreFound = (v w : View) (s tail x : ℕ) → hosts v s ≡ true → 0 < tail → tail ≤ tail_count v.limits → Met v w (Look s (address v.limits (CellWord tail 0))) (CellWord tail 0) x x → 0 < x → TailFound w s tail x

abbrev pub WordsAreFound : Type 0
WordsAreFound = (v w : View) (s rec p x : ℕ) (c : Version) → hosts v s ≡ true → IsVersionOf v.limits rec c → Contains (knows v s).facts (fact_of c) → p < 3 + v.limits.columns
    → Met v w (Look s (address v.limits (CellWord c.tail p))) (CellWord c.tail p) x x → WordFound v.limits c p x

abbrev pub StatesAreFound : Type 0
StatesAreFound = (v w : View) (s name x : ℕ) → hosts v s ≡ true → name % 16 < v.limits.sessions → 0 < name / 16 → name / 16 ≤ v.limits.txns
    → Met v w (Look s (address v.limits (StateWord (name % 16) (name / 16)))) (StateWord (name % 16) (name / 16)) x x → StateFound (knows v s) (knows w s) name x

-- a find that the version is unfinished is about the record, where its start word was loaded last
abbrev pub UnfinishedIsAbout : Type 0
UnfinishedIsAbout = (v : Known) (rec : ℕ) (c : Version) → v.is_open ≡ true → StartFound v rec c (1 + 2 * c.writer) → c.writer % 16 < 16
    → unfinished v (c.writer % 16) (c.writer / 16) ≡ UnfinishedVersion (rec + 1) c.tail (c.writer % 16) (c.writer / 16) (v.begin + 1)

-- ---- what a session knows after looks

abbrev pub LooksWatch : Type 0
LooksWatch = (v w : View) (s x : ℕ) (p : Place) → hosts v s ≡ true → IsWithin v.limits p → IsWatched p → Met v w (Look s (address v.limits p)) p x x → Watched v w s

abbrev pub CountersWatch : Type 0
CountersWatch = (v w : View) (s range x : ℕ) → hosts v s ≡ true → (knows v s).is_open ≡ true → (knows v s).hold.latch ≡ 0 → range < v.limits.ranges → Met v w (Look s (address v.limits (TailCounter range))) (TailCounter range) x x → Watched v w s

-- a page is taken in hand
abbrev pub PagesWatch : Type 0
PagesWatch = (v w : View) (s range column frame : ℕ) → hosts v s ≡ true → s < v.limits.sessions → PageLooked v w s range column frame → Watched v w s

-- a stamp tells its session nothing
abbrev pub StampsWatch : Type 0
StampsWatch = (v w : View) (s range n x : ℕ) (p : Place) → Made v w (Stamp s range n) p x → Watched v w s

abbrev pub WatchesJoin : Type 0
WatchesJoin = (u v w : View) (s : ℕ) → Watched u v s → Watched v w s → Watched u w s

-- it has its pin, and sets none
abbrev pub WatchersKeepPins : Type 0
WatchersKeepPins = (v w : View) (s : ℕ) → Watched v w s → SamePins (knows v s) (knows w s)

-- it sees the same as before, and keeps its facts and finds
pub record KeptBy (u v : Known) : Type 0 where
  pub alike : SeesAlike u v
  pub facts : Includes v.facts u.facts
  pub finds : (f : Find) → Contains u.finds f → Contains v.finds f
  pub seen : Extends v.seen u.seen
  pub is_open : v.is_open ≡ u.is_open
  pub hold : v.hold ≡ u.hold

abbrev pub WatchersKeep : Type 0
WatchersKeep = (v w : View) (s : ℕ) → Possible v → hosts v s ≡ true → (knows v s).is_open ≡ true → Watched v w s → KeptBy (knows v s) (knows w s)

-- ---- what a writer may do

-- closed versions before a judged chain are judged
abbrev pub ClosedArePassed : Type 0
ClosedArePassed = (v : Known) (s : ℕ) (passed rest : List Version) → AreClosed v.facts passed → IsJudged v s rest → IsJudged v s (passed ++ rest)

-- with the latch in hand, a judged chain allows the draw of a tail
abbrev pub JudgedMayDraw : Type 0
JudgedMayDraw = (v : View) (s rec : ℕ) (copy : List Version) → hosts v s ≡ true → s < v.limits.sessions → (knows v s).hold.latch ≡ rec + 1 → IsChainFrom v.limits (knows v s).facts rec (knows v s).hold.head copy
    → IsJudged (knows v s) s copy → CanStand v (DrawTail s (range_of rec))

-- a version committed at a time that was seen: at that time what was seen has a commit of its transaction, which wrote the record's key
abbrev pub CommittedWrote : Type 0
CommittedWrote = (v : View) (s rec key time : ℕ) (c : Version) → Possible v → hosts v s ≡ true → IsVersionOf v.limits rec c → Contains (knows v s).facts (fact_of c) → HasKey (knows v s).facts rec key
    → 0 < time → time ≤ length (knows v s).seen → IsCommittedAt (knows v s).facts c time → WroteAt (knows v s).seen time c.writer key

-- ---- stamps

-- a version committed at a time that was seen may be stamped with it
abbrev pub CommittedMayBeStamped : Type 0
CommittedMayBeStamped = (v : View) (s range n time : ℕ) (c : Version) → hosts v s ≡ true → c.writer % 16 < v.limits.sessions → Contains (knows v s).facts (fact_of c) → c.tail ≡ range * v.limits.tails + n
    → 0 < time → time ≤ length (knows v s).seen → IsCommittedAt (knows v s).facts c time → CanStand v (Stamp s range n) × Times v (Stamp s range n) time
