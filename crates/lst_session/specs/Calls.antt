-- What a session's calls answer, and what they leave of what the session knows.
use Rattle.std.specs.Prelude.{◌≡◌, ◌≢◌, ◌⊎◌, ℕ, ◌+◌, ◌*◌, ◌<◌, ◌≤◌, List, [], ◌∷◌, ◌++◌, Bool, true, false, length, Option}
use Rattle.std.specs.List.{All}
use Rattle.lst_layout.specs.declared.limits.Limits.{Limits}
use Rattle.lst_layout.specs.declared.place.Place.TheVariants.{HeadWord}
use Rattle.lst_model.specs.declared.acts.Act.{Act}
use Rattle.lst_model.specs.declared.commits.Commit.{Commit}
use Rattle.lst_model.specs.Cells.{Cell}
use Rattle.lst_model.specs.Tables.{row_of}
use Rattle.lst_model.specs.Histories.{Extends, snapshot, joined}
use Rattle.lst_model.specs.Soundness.{Fits}
use Rattle.lst_core_state.specs.Writes.{write, commit}
use Rattle.lst_core_state.specs.declared.events.Event.TheVariants.{Latch, Release}
use Rattle.lst_core_state.specs.declared.known.Known.{Known}
use Rattle.lst_core_state.specs.declared.facts.Find.{Find}
use Rattle.lst_core_state.specs.declared.facts.Find.TheVariants.{FreshClock, FreshEpoch, HeldTurn, LatchedRecord, UnfinishedVersion, FullRecords, FullTails, TailLoad}
use Rattle.lst_core_state.specs.Cells.{range_of}
use Rattle.lst_core_state.specs.State.{mine, name_of, rank}
use Rattle.lst_rule.specs.declared.view.View.{View}
use Rattle.lst_rule.specs.Rule.{knows, hosts}
use Rattle.lst_rule.specs.Learned.{Learns, Made}
use Rattle.lst_rule.specs.PageSteps.{stock_of}
use Rattle.lst_rule.specs.Copies.{Version, Includes}
use Rattle.lst_rule.specs.Seen.{HasKey}
use Rattle.lst_rule.specs.Judging.{WroteAt}
use Rattle.lst_rule.specs.Watching.{IsNotFull, SamePins}
use Rattle.lst_index.specs.Searches.{Ended, Works}
use Rattle.lst_index.specs.Placings.{Drew, DrawsAfterLook, FoundFull}
use Rattle.lst_retire.specs.Pins.{Pins, Unpins}
use Rattle.lst_txn.specs.Transactions.{Opens}
use Rattle.lst_write.specs.Holding.{Latches}
use Rattle.lst_write.specs.Standings.{FoundSince}
use Rattle.lst_write.specs.Judgements.{HasJudged, Stops, FoundNewer}
use Rattle.lst_refinement.specs.Effects.{SameTransactions, HasBegun, HasEnded}
use Rattle.lst_session.specs.Traces.{is_put, misfit_of, MayWrite}
use Rattle.lst_session.specs.declared.kinds.WriteRefusal.{WriteRefusal}
use Rattle.lst_session.specs.declared.kinds.WriteRefusal.TheVariants.{Idle, ReadOnly, Missing, Exists, TableFull, Latched, Newer, Unfinished, TailFull}

-- ---- every call

-- of the sessions and the merger only s learnt something. What it has seen, its facts and what it has found only grow
pub record Called (v w : View) (s : ℕ) : Type 0 where
  pub learns : Learns v w s (knows w s)
  pub seen : Extends (knows w s).seen (knows v s).seen
  pub facts : Includes (knows w s).facts (knows v s).facts
  pub finds : (more : List Find) × ((knows w s).finds ≡ (knows v s).finds ++ more)

-- since the view was v the session has found no counter full
pub record FindsNoneFull (v w : View) (s : ℕ) : Type 0 where
  pub more : List Find
  pub grows : (knows w s).finds ≡ (knows v s).finds ++ more
  pub room : All IsNotFull more

-- or it has found one full, at last: that is the only such find
pub record FindsOneFull (v w : View) (s : ℕ) (full : Find) : Type 0 where
  pub before : List Find
  pub grows : (knows w s).finds ≡ (knows v s).finds ++ (before ++ full ∷ [])
  pub room : All IsNotFull before

-- the transaction, its own writes and the session's commits stay
pub record SameWork (s : ℕ) (u k : Known) : Type 0 where
  pub transaction : SameTransactions u k
  pub own : k.own ≡ u.own
  pub mine : mine s k ≡ mine s u

-- and so do the lists of what the session ever drew, latched and wrote
pub record SameLists (u k : Known) : Type 0 where
  pub drawn : k.placing.drawn ≡ u.placing.drawn
  pub latched : k.latched ≡ u.latched
  pub done : k.done ≡ u.done

-- nothing but looks was made: the transaction, its own writes, the session's commits, its pin and these lists stay
pub record OnlyLooks (v w : View) (s : ℕ) : Type 0 where
  pub called : Called v w s
  pub same : SameWork s (knows v s) (knows w s)
  pub pins : SamePins (knows v s) (knows w s)
  pub lists : SameLists (knows v s) (knows w s)

-- what the open transaction sees of a key: the row in the snapshot at its begin, of what the session has seen, with its own writes on it
abbrev pub row_seen : Known → ℕ → Option (List Cell)
row_seen k key = row_of (snapshot k.seen k.begin k.own) key

-- ---- begins

-- between lies a view in which the session is pinned, at the epoch of this clause, and its transactions are as before; from there the next one is opened. So
-- the epoch was loaded before the clock. The two stores are of different words: that the pin's came first is read in the body
pub record PinsFirst (v w : View) (s clock begin : ℕ) (read_only : Bool) : Type 0 where
  pub before : View
  pub pinned : View
  pub called : Called v before s
  pub pins : Pins before pinned s
  pub waits : SameTransactions (knows v s) (knows pinned s)
  pub opens : Opens pinned w s clock begin read_only

-- the next transaction is open, with this begin and of this kind, without own writes. The clock was loaded in the call, and found at least
-- what the session had seen, which it has seen then. The session is pinned at an epoch that was found in the call, and has set one pin more
pub record Begins (v w : View) (s clock begin : ℕ) (read_only : Bool) : Type 0 where
  pub called : Called v w s
  pub lists : SameLists (knows v s) (knows w s)
  pub begun : HasBegun (knows v s) (knows w s) begin read_only
  pub own : (knows w s).own ≡ []
  pub mine : mine s (knows w s) ≡ mine s (knows v s)
  pub fresh : FoundSince v w s (FreshClock clock)
  pub least : length (knows v s).seen ≤ clock
  pub seen : length (knows w s).seen ≡ clock
  pub early : begin ≤ clock
  pub epoch : ℕ
  pub fresh_epoch : FoundSince v w s (FreshEpoch epoch)
  -- where the view hosts the merger, it is the merger's epoch
  pub current : hosts v v.limits.sessions ≡ true → epoch ≡ (stock_of v).epoch
  pub pin : (knows w s).pages.session.pin ≡ epoch + 1
  pub pins : (knows w s).pages.pins ≡ (knows v s).pages.pins + 1
  pub order : PinsFirst v w s clock begin read_only
  pub room : FindsNoneFull v w s

-- the clock was loaded in the call, and found below the time. No pin was set
pub record IsAhead (v w : View) (s clock time : ℕ) : Type 0 where
  pub called : Called v w s
  pub same : SameWork s (knows v s) (knows w s)
  pub pins : SamePins (knows v s) (knows w s)
  pub lists : SameLists (knows v s) (knows w s)
  pub fresh : FoundSince v w s (FreshClock clock)
  pub least : length (knows v s).seen ≤ clock
  pub seen : length (knows w s).seen ≡ clock
  pub below : clock < time
  pub room : FindsNoneFull v w s

-- ---- reads

-- a find of anything else than that a word of a tail record was loaded
abbrev pub IsNoTailLoad : Find → Type 0
IsNoTailLoad (TailLoad tail) = ⊥
IsNoTailLoad f = Unit {0}

-- since the view was v the session has loaded no word of a tail record: each such load would be one more find
pub record LoadsNoTail (v w : View) (s : ℕ) : Type 0 where
  pub more : List Find
  pub grows : (knows w s).finds ≡ (knows v s).finds ++ more
  pub none : All IsNoTailLoad more

pub record Gets (v w : View) (s key : ℕ) (row : Option (List Cell)) : Type 0 where
  pub called : Called v w s
  pub same : SameWork s (knows v s) (knows w s)
  pub pins : SamePins (knows v s) (knows w s)
  pub lists : SameLists (knows v s) (knows w s)
  pub is : row ≡ row_seen (knows w s) key
  pub room : FindsNoneFull v w s

-- ---- writes

-- the tail belongs to the record's range: it is one of the tails there, by its number, and these count from 1
pub record IsTailOf (l : Limits) (rec tail : ℕ) : Type 0 where
  pub number : ℕ
  pub some : 0 < number
  pub few : number ≤ l.tails
  pub is : tail ≡ range_of rec * l.tails + number

-- the transaction is open and may write; the act on the key is one more of its own writes, and fits what it saw. At most so many records
-- were drawn, and only for a key whose run ends without it. No counter was found full. The write's tail is one of the range of the
-- key's record
pub record Accepts (v w : View) (s key most : ℕ) (act : Act) : Type 0 where
  pub may : MayWrite v s
  pub called : Called v w s
  pub transaction : SameTransactions (knows v s) (knows w s)
  pub pins : SamePins (knows v s) (knows w s)
  pub fits : Fits (row_seen (knows v s) key) act
  pub own : (knows w s).own ≡ joined (knows v s).own (write key act)
  pub mine : mine s (knows w s) ≡ mine s (knows v s)
  pub drew : Drew (knows v s).placing (knows w s).placing most
  pub after_look : DrawsAfterLook v w s key
  pub rec : ℕ
  pub tail : ℕ
  pub placed : HasKey (knows w s).facts rec key
  pub latched : (knows w s).latched ≡ (knows v s).latched ++ rec ∷ []
  pub done : (knows w s).done ≡ (knows v s).done ++ record { number = (knows v s).number; rec = rec; tail = tail } ∷ []
  pub belongs : IsTailOf w.limits rec tail
  pub room : FindsNoneFull v w s

-- nothing was written. At most so many records were drawn, and only for a key whose run ends without it
pub record Refuses (v w : View) (s key most : ℕ) : Type 0 where
  pub called : Called v w s
  pub same : SameWork s (knows v s) (knows w s)
  pub pins : SamePins (knows v s) (knows w s)
  pub done : (knows w s).done ≡ (knows v s).done
  pub drew : Drew (knows v s).placing (knows w s).placing most
  pub after_look : DrawsAfterLook v w s key

-- the key's record was latched in the call, by a step that found its newest version to have the number `head` in its range, and so left the
-- record's indirection word. At last the latch was given back, by a step that left the word with this number: so `head` is what the latch of
-- this call found, and no number from before it serves
pub record HasLatched (v w : View) (s key : ℕ) : Type 0 where
  pub rec : ℕ
  pub head : ℕ
  pub placed : HasKey (knows w s).facts rec key
  pub latched : (knows w s).latched ≡ (knows v s).latched ++ rec ∷ []
  pub before : View
  pub after : View
  pub first : Called v before s
  pub latches : Latches before after s rec head
  pub word : Made before after (Latch s rec) (HeadWord rec) (2 * head + 1)
  pub last : Called after w s
  pub back : View
  pub held : Called after back s
  pub release : Made back w (Release s) (HeadWord rec) (2 * head)

-- no record was
abbrev pub HasNotLatched : View → View → ℕ → Type 0
HasNotLatched v w s = (knows w s).latched ≡ (knows v s).latched

-- looks at the index led to a view that allows a state in which the key has no record: its run ends without it (`Ended`, which doesn't say that the load
-- which found this is one of the call)
pub record HasNoRecord (v w : View) (s key : ℕ) : Type 0 where
  pub works : Works v w s []
  pub ended : Ended w s key

-- the key's record was found latched: never by a seat that hosts every session while none of them has this latch in hand
pub record FindsLatch (v w : View) (s key : ℕ) : Type 0 where
  pub rec : ℕ
  pub placed : HasKey (knows w s).facts rec key
  pub found : FoundSince v w s (LatchedRecord rec)
  pub other : ¬ ((t : ℕ) → t < v.limits.sessions → (hosts v t ≡ true) × ((knows v t).hold.latch ≢ rec + 1))

-- the key's record was latched, and the facts have the chain that the latch found: its newest version that isn't known to be closed is one that
-- the open transaction of s sees
pub record WasJudged (v w : View) (s key : ℕ) : Type 0 where
  pub latch : HasLatched v w s key
  pub judged : HasJudged w.limits (knows w s) s latch.rec latch.head

-- the key's record was latched, and the facts have the chain that the latch found: its newest version that isn't known to be closed is known to
-- be committed at the time, which is above the begin and has been seen
pub record FindsNewer (v w : View) (s key time : ℕ) : Type 0 where
  pub latch : HasLatched v w s key
  pub newer : FoundNewer w.limits (knows w s) latch.rec latch.head time

-- the key's record was latched, and the facts have the chain that the latch found: its newest version that isn't known to be closed is one of the
-- transaction n of another session j, which was found unfinished since the view was v
pub record FindsUnfinished (v w : View) (s key j n : ℕ) : Type 0 where
  pub other : j ≢ s
  pub latch : HasLatched v w s key
  pub passed : List Version
  pub version : Version
  pub older : List Version
  pub stops : Stops w.limits (knows w s) latch.rec latch.head passed version older
  pub writer : version.writer ≡ name_of j n
  pub found : FoundSince v w s (UnfinishedVersion (latch.rec + 1) version.tail j n ((knows v s).begin + 1))

-- the chain was judged, and since the view was v every tail of the range of the key's record was found drawn, and no other counter full
pub record FindsTails (v w : View) (s key : ℕ) : Type 0 where
  pub judged : WasJudged v w s key
  pub found : FoundSince v w s (FullTails (range_of judged.latch.rec))
  pub alone : FindsOneFull v w s (FullTails (range_of judged.latch.rec))

-- the act doesn't fit what the transaction sees
abbrev pub IsMisfit : View → ℕ → ℕ → Act → WriteRefusal → Type 0
IsMisfit v s key act refusal = ¬ Fits (row_seen (knows v s) key) act × (refusal ≡ misfit_of act)

-- why a write is refused: where no transaction is open, or the open one is read-only, nothing was done at all; any other refusal is of one
-- that is open and may write. Of a key with a record, that the act doesn't fit, or that no tail is left, is answered only where the chain that the
-- latch found was judged. Where a counter
-- was found full, the refusal is TableFull or TailFull, by which of them it was
abbrev pub Cause : View → View → ℕ → ℕ → Act → WriteRefusal → Type 0
Cause v w s key act Idle = (w ≡ v) × ((knows v s).is_open ≡ false)
Cause v w s key act ReadOnly = (w ≡ v) × ((knows v s).is_open ≡ true) × ((knows v s).read_only ≡ true)
Cause v w s key act Missing = MayWrite v s × IsMisfit v s key act Missing × ((HasNotLatched v w s × HasNoRecord v w s key) ⊎ WasJudged v w s key) × FindsNoneFull v w s
Cause v w s key act Exists = MayWrite v s × IsMisfit v s key act Exists × WasJudged v w s key × FindsNoneFull v w s
Cause v w s key act TableFull = MayWrite v s × (is_put act ≡ true) × FoundFull v w s key × HasNotLatched v w s × ((knows w s).placing.drawn ≡ (knows v s).placing.drawn) × FindsOneFull v w s FullRecords
Cause v w s key act Latched = MayWrite v s × FindsLatch v w s key × HasNotLatched v w s × FindsNoneFull v w s
Cause v w s key act (Newer time) = MayWrite v s × ((knows v s).begin < time) × ((name : ℕ) × WroteAt (knows w s).seen time name key) × FindsNewer v w s key time × FindsNoneFull v w s
Cause v w s key act (Unfinished j n) = MayWrite v s × FindsUnfinished v w s key j n × FindsNoneFull v w s
Cause v w s key act TailFull = MayWrite v s × Fits (row_seen (knows v s) key) act × FindsTails v w s key

-- ---- ends

-- the pin was taken away, and none set
pub record TakesPinAway (u k : Known) : Type 0 where
  pub pins : k.pages.pins ≡ u.pages.pins
  pub pin : k.pages.session.pin ≡ 0

-- between lies a view in which the transaction is over and the pin stands; from there the pin is taken away. That its store came last is read in the body
pub record UnpinsLast (v w : View) (s : ℕ) : Type 0 where
  pub over : View
  pub called : Called v over s
  pub ended : HasEnded (knows v s) (knows over s)
  pub pins : SamePins (knows v s) (knows over s)
  pub unpins : Unpins over w s

-- the transaction is the commit at the time, above all that the session had seen, and then its session isn't pinned any more
pub record Commits (v w : View) (s time : ℕ) : Type 0 where
  pub called : Called v w s
  pub lists : SameLists (knows v s) (knows w s)
  pub ended : HasEnded (knows v s) (knows w s)
  pub unpinned : TakesPinAway (knows v s) (knows w s)
  pub wrote : 0 < length (knows v s).own
  pub own : (knows w s).own ≡ []
  pub above : length (knows v s).seen < time
  pub before : List Commit
  pub place : length before + 1 ≡ time
  pub seen : let k = knows v s in (knows w s).seen ≡ before ++ commit s k.number k.begin k.own ∷ []
  pub mine : let k = knows v s in mine s (knows w s) ≡ mine s k ++ commit s k.number k.begin k.own ∷ []
  pub order : UnpinsLast v w s
  pub room : FindsNoneFull v w s

-- the transaction is over, without a commit, and then its session isn't pinned any more
pub record Ends (v w : View) (s : ℕ) : Type 0 where
  pub called : Called v w s
  pub lists : SameLists (knows v s) (knows w s)
  pub ended : HasEnded (knows v s) (knows w s)
  pub unpinned : TakesPinAway (knows v s) (knows w s)
  pub own : (knows w s).own ≡ []
  pub mine : mine s (knows w s) ≡ mine s (knows v s)
  pub order : UnpinsLast v w s
  pub room : FindsNoneFull v w s

-- the commit word was found held: never by a seat that hosts every session while none of them has the turn. The pin stays
pub record FindsHeld (v w : View) (s : ℕ) : Type 0 where
  pub called : Called v w s
  pub same : SameWork s (knows v s) (knows w s)
  pub pins : SamePins (knows v s) (knows w s)
  pub lists : SameLists (knows v s) (knows w s)
  pub wrote : 0 < length (knows v s).own
  pub found : FoundSince v w s HeldTurn
  pub other : ¬ ((t : ℕ) → t < v.limits.sessions → (hosts v t ≡ true) × (rank (knows v t).turn ≡ 0))
  pub room : FindsNoneFull v w s
