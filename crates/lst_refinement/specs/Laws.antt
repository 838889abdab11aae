-- What the machine of one thread says of the state that a crew's store tells: its answers are those of the chains, and each call of the crew
-- moves it to its next state.
use Rattle.std.specs.Prelude.{◌≡◌, ◌≢◌, ◌⊎◌, ℕ, ◌+◌, ◌/◌, ◌%◌, ◌<◌, ◌≤◌, List, [], ◌∷◌, ◌++◌, Bool, true, false, not, Option, Some, None, length}
use Rattle.lst_layout.specs.declared.limits.Limits.{Limits}
use Rattle.lst_layout.specs.Limits.{IsValid}
use Rattle.lst_layout.specs.Words as layout
use Rattle.lst_model.specs.declared.acts.Act.{Act}
use Rattle.lst_model.specs.declared.lines.Call.{Call}
use Rattle.lst_model.specs.declared.replies.Reply.{Reply}
use Rattle.lst_model.specs.declared.replies.Reply.TheVariants.{Begun, Merged, NothingNew, NoFrame, Refused}
use Rattle.lst_model.specs.declared.replies.Cause.{Cause}
use Rattle.lst_model.specs.declared.replies.Cause.TheVariants.{Newer, Unfinished}
use Rattle.lst_model.specs.Tables.{row_of}
use Rattle.lst_model.specs.Histories.{row_from}
use Rattle.lst_model.specs.Soundness.{Follows}
use Rattle.lst_core_state.specs.Lists.{Has}
use Rattle.lst_core_state.specs.Writes.{commit}
use Rattle.lst_machine.specs.State.{Opened, Store, opening_store, opening_pages}
use Rattle.lst_machine.specs.Writes.{place_of, own_writes, sight_of, conflict_of}
use Rattle.lst_machine.specs.Calls.{call_reply, with_opened, with_closed, with_commit, with_placed, with_accepted}
use Rattle.lst_machine.specs.Merges.{settled_count, holds_frame, lowest_where, merge_reply, ended_where, pages_after_merge, pages_after_call}
use Rattle.lst_core_state.specs.declared.known.Known.{Known}
use Rattle.lst_core_state.specs.declared.pages.MergerFrames.{MergerFrames}
use Rattle.lst_core_state.specs.Cells.{record_count}
use Rattle.lst_core_state.specs.Index.{size, is_placed}
use Rattle.lst_core_state.specs.State.{Words, Core, newcomer, writer_at, state_at, name_of, line, history_of, sight}
use Rattle.lst_rule.specs.Watching.{IsStamped}
use Rattle.lst_pages.specs.Lists.{Every}
use Rattle.lst_pages.specs.State.{oldest_epoch, opening_merger}
use Rattle.lst_pages.specs.Settled.{settled_tails}
use Rattle.lst_pages.specs.Sound.{IsPage}
use Rattle.lst_pages.specs.Step.{lets_go}
use Rattle.lst_pages.specs.Known.{PagesSound}
use Rattle.lst_pages.specs.Runs.{tps_known}
use Rattle.lst_refinement.specs.Crews.{IsCrew, IsPinnedCrew}
use Rattle.lst_refinement.specs.Telling.{told_store, told, told_pages, pages_told, told_state}
use Rattle.lst_refinement.specs.Folding.{AreFolded, AreAllFolded, NeedsNoTail}
use Rattle.lst_refinement.specs.Effects.{SameTransactions, SameBut, TellAlike, HasBegun, HasEnded, begun_words, closed_words, committed_words, placed_words, IsWritten, SamePinEach, SamePinBut, SameStock, HasSwapped, begins_or_ends}

-- ---- what the state says

-- the clock is the number of commits, the record counter that of the placed keys, and each tail counter that of its range's accepted writes
pub record CountsOf (c : Core) : Type 0 where
  pub clock : length (told c).history ≡ c.words.clock
  pub records : length (told c).placed ≡ c.words.counter
  pub tails : (range : ℕ) → length ((told c).accepted range) ≡ c.words.counts range

abbrev pub CountsAreTold : Type 0
CountsAreTold = (c : Core) → IsCrew c → CountsOf c

-- a key has its record's place, and a key of no record in the index has none
abbrev pub KeysArePlaced : Type 0
KeysArePlaced = (c : Core) → IsCrew c → (r : ℕ) → r < record_count c.limits → is_placed c.limits c.words.index r ≡ true → place_of (told c).placed (c.words.keys r) ≡ Some r

abbrev pub OthersAreUnplaced : Type 0
OthersAreUnplaced = (c : Core) → IsCrew c → (key : ℕ) → ((r : ℕ) → r < record_count c.limits → is_placed c.limits c.words.index r ≡ true → c.words.keys r ≢ key) → place_of (told c).placed key ≡ None

-- the open transaction's own writes, and what it sees
abbrev pub OwnWritesAreTold : Type 0
OwnWritesAreTold = (c : Core) → IsCrew c → (s : ℕ) → s < c.limits.sessions → (c.known s).is_open ≡ true → own_writes c.limits (told c) s ≡ (c.known s).own

abbrev pub SightsAreTold : Type 0
SightsAreTold = (c : Core) → IsCrew c → (s key : ℕ) → s < c.limits.sessions → (c.known s).is_open ≡ true → row_of (sight_of c.limits (told c) s (c.known s).begin) key ≡ row_from None (sight (c.known s) key)

-- the open transaction, once it has writes, may be committed behind the history: no commit after its begin has a write on a key of its own, those of its
-- session have lower numbers, and each of its writes fits the snapshot that its begin and the writes before it give
abbrev pub OpenMayFollow : Type 0
OpenMayFollow = (c : Core) → IsCrew c → (s : ℕ) → s < c.limits.sessions → (c.known s).is_open ≡ true → 0 < length (c.known s).own
    → Follows (history_of c.limits c.words) (commit s (c.known s).number (c.known s).begin (c.known s).own)

-- what stands in the way of a write of the session s on the record, whose chain is `passed`, all closed, and then `rest`
abbrev pub AllClosed : Words → List ℕ → Type 0
AllClosed w ts = (t : ℕ) → Has t ts → state_at w t ≡ 1

pub record Conflicts (c : Core) (s r : ℕ) (passed rest : List ℕ) (answer : Option Cause) : Type 0 where
  -- nothing, where the chain ends
  pub none : rest ≡ [] → answer ≡ None
  -- nor where the newest version that isn't closed is its own, or was committed by its begin
  pub own : (t : ℕ) (older : List ℕ) → rest ≡ t ∷ older → writer_at c.words t ≡ name_of s (c.known s).number → answer ≡ None
  pub seen : (t time : ℕ) (older : List ℕ) → rest ≡ t ∷ older → 0 < time → state_at c.words t ≡ time + 1 → time ≤ (c.known s).begin → answer ≡ None
  -- else its commit time, or its transaction
  pub newer : (t time : ℕ) (older : List ℕ) → rest ≡ t ∷ older → state_at c.words t ≡ time + 1 → (c.known s).begin < time → answer ≡ Some (Newer time)
  pub unfinished : (t : ℕ) (older : List ℕ) → rest ≡ t ∷ older → state_at c.words t ≡ 0 → writer_at c.words t % 16 ≢ s → answer ≡ Some (Unfinished (writer_at c.words t % 16) (writer_at c.words t / 16))

abbrev pub ConflictsAreTold : Type 0
ConflictsAreTold = (c : Core) → IsCrew c → (s r : ℕ) (passed rest : List ℕ) → s < c.limits.sessions → (c.known s).is_open ≡ true → r < record_count c.limits → is_placed c.limits c.words.index r ≡ true
    → line c.limits c.words r ≡ passed ++ rest → AllClosed c.words passed → Conflicts c s r passed rest (conflict_of (told c) s (c.known s).begin (c.words.keys r))

-- ---- how it changes

-- at the opening there is nothing
abbrev pub OpeningIsTold : Type 0
OpeningIsTold = (l : Limits) → IsValid l → told_store l (layout.opening l) (λ s. newcomer l) ≡ opening_store

-- stamps change nothing, nor does what sessions know of anything but their transactions
abbrev pub StampsTellNothing : Type 0
StampsTellNothing = (l : Limits) (a b : Words) (known : ℕ → Known) → IsStamped a b → told_store l b known ≡ told_store l a known

abbrev pub TransactionsAreTold : Type 0
TransactionsAreTold = (l : Limits) (w : Words) (u k : ℕ → Known) → ((s : ℕ) → s < l.sessions → SameTransactions (u s) (k s)) → told_store l w k ≡ told_store l w u

-- whatever the areas are of which nothing is told
abbrev pub OtherAreasTellNothing : Type 0
OtherAreasTellNothing = (l : Limits) (a b : Words) (known : ℕ → Known) → TellAlike a b → told_store l b known ≡ told_store l a known

-- a transaction begins, is closed, is committed
abbrev pub BeginsAreTold : Type 0
BeginsAreTold = (c : Core) → IsCrew c → (s begin : ℕ) (read_only : Bool) (k : ℕ → Known) → s < c.limits.sessions → (c.known s).is_open ≡ false → SameBut c.limits.sessions s c.known k → HasBegun (c.known s) (k s) begin read_only
    → told_store c.limits (begun_words c.words s ((c.known s).number + 1) begin) k ≡ with_opened (told c) s begin read_only

abbrev pub ClosesAreTold : Type 0
ClosesAreTold = (c : Core) → IsCrew c → (s : ℕ) (k : ℕ → Known) → s < c.limits.sessions → (c.known s).is_open ≡ true → SameBut c.limits.sessions s c.known k → HasEnded (c.known s) (k s)
    → told_store c.limits (closed_words c.words s (c.known s).number) k ≡ with_closed (told c) s

abbrev pub CommitsAreTold : Type 0
CommitsAreTold = (c : Core) → IsCrew c → (s : ℕ) (k : ℕ → Known) → s < c.limits.sessions → (c.known s).is_open ≡ true → 0 < length (c.known s).own → SameBut c.limits.sessions s c.known k → HasEnded (c.known s) (k s)
    → told_store c.limits (committed_words c.words s (c.known s).number) k ≡ with_commit (told c) s record { begin = (c.known s).begin; read_only = (c.known s).read_only } (c.known s).own

-- a key without a record gets one, at a position of the index that was empty
abbrev pub PlacesAreTold : Type 0
PlacesAreTold = (c : Core) → IsCrew c → (key q : ℕ) → c.words.counter < record_count c.limits → q < size c.limits → c.words.index q ≡ 0 → place_of (told c).placed key ≡ None
    → told_store c.limits (placed_words c.words key q) c.known ≡ with_placed (told c) key

-- a write is accepted
abbrev pub WritesAreTold : Type 0
WritesAreTold = (c : Core) → IsCrew c → (s rec n : ℕ) (act : Act) (b : Words) → s < c.limits.sessions → (c.known s).is_open ≡ true → rec < record_count c.limits → is_placed c.limits c.words.index rec ≡ true → n ≤ c.limits.tails
    → IsWritten c.limits c.words b rec n (name_of s (c.known s).number) act → told_store c.limits b c.known ≡ with_accepted (told c) s (c.words.keys rec) act

-- ---- the page part

-- at the opening no page has a tail, and nothing was swapped
abbrev pub OpeningPagesAreTold : Type 0
OpeningPagesAreTold = (l : Limits) → IsValid l → told_pages l (λ s. newcomer l) (opening_merger l) ≡ opening_pages

-- it is told of the pins, of the TPS of each page, and of the epoch
abbrev pub PinsAndPagesAreTold : Type 0
PinsAndPagesAreTold = (l : Limits) (u k : ℕ → Known) (m o : MergerFrames) → SamePinEach l.sessions u k → SameStock l m o → told_pages l k o ≡ told_pages l u m

-- a call that begins a transaction pins the epoch
abbrev pub PinnedBeginsAreTold : Type 0
PinnedBeginsAreTold = (l : Limits) (store : Store) (u k : ℕ → Known) (m o : MergerFrames) (s time : ℕ) (call : Call) → s < l.sessions → call_reply l store s call ≡ Begun time
    → SamePinBut l.sessions s u k → (k s).pages.session.pin ≡ m.epoch + 1 → SameStock l m o → told_pages l k o ≡ pages_after_call l store (told_pages l u m) s call

-- one that ends it takes the pin away. `ended_where` is what the machine does at a commit and at an abort
abbrev pub PinnedEndsAreTold : Type 0
PinnedEndsAreTold = (l : Limits) (store : Store) (u k : ℕ → Known) (m o : MergerFrames) (s : ℕ) (transaction : Opened) → s < l.sessions → store.opened s ≡ Some transaction
    → SamePinBut l.sessions s u k → (k s).pages.session.pin ≡ 0 → SameStock l m o → told_pages l k o ≡ ended_where (store.opened s) (told_pages l u m) s

-- a call that is refused, and one that neither begins nor ends a transaction, change no pin and no page
abbrev pub OtherCallsLeavePages : Type 0
OtherCallsLeavePages = (l : Limits) (store : Store) (u k : ℕ → Known) (m o : MergerFrames) (s : ℕ) (call : Call) → (begins_or_ends call ≡ false) ⊎ ((cause : Cause) × (call_reply l store s call ≡ Refused cause))
    → SamePinEach l.sessions u k → SameStock l m o → told_pages l k o ≡ pages_after_call l store (told_pages l u m) s call

-- ---- merges

-- the settled writes of a range are its settled tails
abbrev pub SettledAreTold : Type 0
SettledAreTold = (c : Core) → IsCrew c → (range : ℕ) → range < c.limits.ranges → settled_count (told c) range ≡ length (settled_tails c.limits c.words range)

-- the session's pin lets go of the oldest retired frame
abbrev pub pin_lets_go : Core → ℕ → Bool
pin_lets_go c s = lets_go (c.known s).pages.session.pin (oldest_epoch c.merger.pages.stock.retired)

-- a session holds a spare frame exactly where its pin doesn't
abbrev pub HoldersAreTold : Type 0
HoldersAreTold = (c : Core) → IsPinnedCrew c → (s : ℕ) → s < c.limits.sessions → holds_frame c.limits (told c) (pages_told c) s ≡ not (pin_lets_go c s)

-- a pin that holds each retired frame holds the oldest one
abbrev pub HoldingAllIsHolding : Type 0
HoldingAllIsHolding = (c : Core) → IsPinnedCrew c → (s : ℕ) → Every (λ r. lets_go (c.known s).pages.session.pin r.epoch ≡ false) c.merger.pages.stock.retired → pin_lets_go c s ≡ false

-- the lowest session that does, and nobody
abbrev pub LowestHolderIsTold : Type 0
LowestHolderIsTold = (c : Core) → IsPinnedCrew c → (s : ℕ) → s < c.limits.sessions → pin_lets_go c s ≡ false → ((t : ℕ) → t < s → pin_lets_go c t ≡ true)
    → lowest_where (holds_frame c.limits (told c) (pages_told c)) c.limits.sessions ≡ Some s

abbrev pub NoHolderIsTold : Type 0
NoHolderIsTold = (c : Core) → IsPinnedCrew c → ((s : ℕ) → s < c.limits.sessions → pin_lets_go c s ≡ true) → lowest_where (holds_frame c.limits (told c) (pages_told c)) c.limits.sessions ≡ None

-- the machine's reply to a merge is this, and what is known then tells its next pages
pub record IsMergedTo (c : Core) (range column : ℕ) (k : ℕ → Known) (o : MergerFrames) (answer : Reply) : Type 0 where
  pub reply : merge_reply c.limits (told c) (pages_told c) range column ≡ answer
  pub next : told_pages c.limits k o ≡ pages_after_merge c.limits (told c) (pages_told c) range column

-- n tails of the range are settled
abbrev pub AreSettled : Core → ℕ → ℕ → Type 0
AreSettled c range n = n ≡ length (settled_tails c.limits c.words range)

-- the page has them all
abbrev pub NothingNewIsTold : Type 0
NothingNewIsTold = (c : Core) → IsCrew c → (range column n : ℕ) (k : ℕ → Known) (o : MergerFrames) → IsPage c.limits range column → AreSettled c range n → tps_known c.merger.pages.stock range column ≡ n
    → SamePinEach c.limits.sessions c.known k → SameStock c.limits c.merger.pages.stock o → IsMergedTo c range column k o (NothingNew n)

-- it hasn't, and s is the lowest session whose pin holds the oldest retired frame
abbrev pub NoFrameIsTold : Type 0
NoFrameIsTold = (c : Core) → IsPinnedCrew c → (range column n s : ℕ) (k : ℕ → Known) (o : MergerFrames) → IsPage c.limits range column → AreSettled c range n → tps_known c.merger.pages.stock range column ≢ n
    → s < c.limits.sessions → pin_lets_go c s ≡ false → ((t : ℕ) → t < s → pin_lets_go c t ≡ true)
    → SamePinEach c.limits.sessions c.known k → SameStock c.limits c.merger.pages.stock o → IsMergedTo c range column k o (NoFrame s)

-- it hasn't, and every pin lets go of that frame: a page of all settled tails takes its place
abbrev pub SwapsAreTold : Type 0
SwapsAreTold = (c : Core) → IsPinnedCrew c → (range column n : ℕ) (k : ℕ → Known) (o : MergerFrames) → IsPage c.limits range column → AreSettled c range n → tps_known c.merger.pages.stock range column ≢ n
    → ((s : ℕ) → s < c.limits.sessions → pin_lets_go c s ≡ true)
    → SamePinEach c.limits.sessions c.known k → HasSwapped c.limits c.merger.pages.stock o range column n → IsMergedTo c range column k o (Merged n)

-- ---- reads of merged rows

-- where the page of a column has folded each accepted write on a key, ended by a time, a read of the column of the key's record at that time needs no tail
-- record
abbrev pub FoldedKeysNeedNoTail : Type 0
FoldedKeysNeedNoTail = (c : Core) → IsCrew c → PagesSound c → (rec column time : ℕ) → rec < record_count c.limits → is_placed c.limits c.words.index rec ≡ true → column < c.limits.columns
    → AreFolded (told_state c) (c.words.keys rec) column time → NeedsNoTail c.words rec column time

-- and where the pages of the column have folded every accepted write, that of no record needs one, whether or not the record was drawn
abbrev pub FoldedTablesNeedNoTail : Type 0
FoldedTablesNeedNoTail = (c : Core) → IsCrew c → PagesSound c → (rec column time : ℕ) → rec < record_count c.limits → column < c.limits.columns
    → AreAllFolded c.limits (told_state c) column time → NeedsNoTail c.words rec column time

-- stamps, which are all that a read stores, leave it so
abbrev pub StampedNeedsNoTail : Type 0
StampedNeedsNoTail = (a b : Words) → IsStamped a b → (rec column time : ℕ) → NeedsNoTail a rec column time → NeedsNoTail b rec column time
