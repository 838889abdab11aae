-- Base pages that a walk reads from.
use Rattle.std.specs.Prelude.{◌≡◌, ◌⊎◌, ℕ, ◌+◌, ◌*◌, ◌/◌, ◌%◌, ◌<◌, ◌≤◌, List, [], ◌∷◌, ◌++◌, Bool, false, ◌&&◌}
use Rattle.lst_layout.specs.declared.TheConstants.{FRAME_TIMES}
use Rattle.lst_layout.specs.declared.place.Place.TheVariants.{HeadWord}
use Rattle.lst_layout.specs.Areas.{frame_count}
use Rattle.lst_layout.specs.Frames.{lineage_place, time_place}
use Rattle.lst_layout.specs.Words.{shown}
use Rattle.lst_bits.specs.declared.encodings.Encoding.{Encoding}
use Rattle.lst_bits.specs.Encodings.{encoding_of}
use Rattle.lst_bits.specs.Times.{time_of, is_present}
use Rattle.lst_core_state.specs.declared.known.Known.{Known}
use Rattle.lst_core_state.specs.Cells.{range_of}
use Rattle.lst_pages.specs.Tails.{touches_column}
use Rattle.lst_pages.specs.Frames.{tps_in, stamp_in}
use Rattle.lst_pages.specs.Pages.{IsRightPage}
use Rattle.lst_pages.specs.Settled.{settled_tails}
use Rattle.lst_rule.specs.declared.view.View.{View}
use Rattle.lst_rule.specs.Rule.{knows}
use Rattle.lst_rule.specs.Learned.{Possible}
use Rattle.lst_rule.specs.Stores.{Looked}
use Rattle.lst_rule.specs.PageSteps.{PageLooked, FrameLoaded}
use Rattle.lst_rule.specs.Copies.{Version, Leads, IsCopy}
use Rattle.lst_rule.specs.Seen.{sees}
use Rattle.lst_rule.specs.Watching.{HasInHand, Watched}
use Rattle.lst_rule.specs.TailLoads.{LoadsOf}
use Rattle.lst_walk.specs.declared.pages.Entry.{Entry}

-- ---- where a page may be used

-- a version with this encoding word touches the column
abbrev pub touches_by : ℕ → ℕ → Bool
touches_by column word = let e : Encoding = encoding_of word in touches_column column e.kind e.mask

-- the version is seen, and touches the column
abbrev pub is_told : Known → ℕ → ℕ → Version → Bool
is_told k s column c = sees k s c.writer && touches_by column c.encoding

-- none of these is
abbrev pub NoneTold : Known → ℕ → ℕ → List Version → Type 0
NoneTold k s column [] = Unit {0}
NoneTold k s column (c ∷ cs) = (is_told k s column c ≡ false) × NoneTold k s column cs

-- the words are a right page of the column, over the settled tails of a state that the view allows
pub record IsPageOf (u : View) (rec column : ℕ) (words : ℕ → ℕ) : Type 0 where
  pub now : Possible u
  pub right : IsRightPage column (settled_tails u.limits (shown u.limits now.words) (range_of rec)) words

-- the view u has the words of a page, and a copy of the record's whole chain: what is seen of the versions above leaves the column, and the rest
-- begins at the number n of the range. That number is at most the page's TPS, and the record's entry was committed by the begin of the
-- transaction that knows k
pub record MayUse (k : Known) (u : View) (s rec column n : ℕ) (above rest : List Version) (words : ℕ → ℕ) : Type 0 where
  pub page : IsPageOf u rec column words
  pub head : ℕ
  pub copy : IsCopy u.limits (knows u s).facts rec head (above ++ rest)
  pub leads : Leads u.limits (range_of rec) n rest
  pub above_leaves : NoneTold k s column above
  pub low : n ≤ tps_in words
  pub timely : time_of (stamp_in words (rec % 256)) ≤ k.begin

-- at some moment between v and w there was such a page, and the session s has it in hand
pub record UsesPage (v w : View) (s rec column : ℕ) (passed rest : List Version) : Type 0 where
  pub between : View
  pub before : Watched v between s
  pub after : Watched between w s
  pub number : ℕ
  pub words : ℕ → ℕ
  pub frame : ℕ
  pub in_hand : HasInHand (knows w s).pages.session frame words
  pub may : MayUse (knows v s) between s rec column number passed rest words

-- ---- a page taken in hand

-- between v and w the session s took the page of the column in hand, in this frame, and then loaded its TPS and the time word of the record's entry
pub record LooksAt (v w : View) (s rec column frame tps stamp : ℕ) : Type 0 where
  pub taken : View
  pub told : View
  pub page : PageLooked v taken s (rec / 256) column frame
  pub lineage : FrameLoaded taken told s frame 0 tps
  pub time : FrameLoaded told w s frame (FRAME_TIMES + rec % 256) stamp

-- between v and w the session s took the page of the column in hand, and then loaded its TPS and the time word of the record's entry
pub record ReadsPage (v w : View) (s rec column : ℕ) : Type 0 where
  pub before : View
  pub taken : View
  pub told : View
  pub timed : View
  pub first : Watched v before s
  pub frame : ℕ
  pub page : PageLooked before taken s (range_of rec) column frame
  pub tps : ℕ
  pub lineage : FrameLoaded taken told s frame lineage_place tps
  pub stamp : ℕ
  pub time : FrameLoaded told timed s frame (time_place (rec % 256)) stamp
  pub last : Watched timed w s

-- what an entry of these words says of the record, where it is by the begin
pub record IsEntryOf (k : Known) (rec : ℕ) (words : ℕ → ℕ) (entry : Entry) : Type 0 where
  pub until : entry.until ≡ tps_in words
  pub timely : time_of (stamp_in words (rec % 256)) ≤ k.begin
  pub present : entry.is_present ≡ is_present (stamp_in words (rec % 256))

-- between v and w the session s took a page in hand, and this is what it may use of it
pub record Takes (v w : View) (s rec column : ℕ) (entry : Entry) : Type 0 where
  pub reads : ReadsPage v w s rec column
  pub first : Watched v reads.taken s
  pub last : Watched reads.taken w s
  pub words : ℕ → ℕ
  pub page : IsPageOf reads.taken rec column words
  pub low : entry.frame < frame_count w.limits
  pub in_hand : HasInHand (knows w s).pages.session entry.frame words
  pub usable : 0 < entry.until → IsEntryOf (knows v s) rec words entry
  pub timely : time_of reads.stamp ≤ (knows v s).begin → entry.until ≡ reads.tps

-- ---- what it saves

-- the tail record lies in the record's range, or after it, and above the number n there
abbrev pub IsAbove : View → ℕ → ℕ → ℕ → Type 0
IsAbove v rec n t = range_of rec * v.limits.tails + n < t

-- the call from v to w loaded the indirection word, took the page of the column in hand, and looked at the record's entry there. Where the
-- entry's time is at most the begin, it loaded words of tail records above the page's TPS alone: so it went on only until the number at hand was
-- at most the TPS. Where the head was, it found nothing, so it loaded no word of a tail record
pub record SavesCell (v w : View) (s rec column : ℕ) : Type 0 where
  pub headed : View
  pub word : ℕ
  pub head : Looked v headed s (HeadWord rec) word
  pub page : ReadsPage headed w s rec column
  pub soon : time_of page.stamp ≤ (knows v s).begin → LoadsOf v w s (IsAbove v rec page.tps)
  pub quiet : word / 2 ≤ page.tps → time_of page.stamp ≤ (knows v s).begin → (knows w s).finds ≡ (knows v s).finds

-- on the way: only words of tail records above the entry's number were loaded. The walk is at the head, and has found nothing, or it will go past
-- the entry's number
pub record Saving (v w : View) (s rec column n : ℕ) (entry : Entry) : Type 0 where
  pub headed : View
  pub word : ℕ
  pub head : Looked v headed s (HeadWord rec) word
  pub page : ReadsPage headed w s rec column
  pub until : time_of page.stamp ≤ (knows v s).begin → entry.until ≡ page.tps
  pub past : LoadsOf v w s (IsAbove v rec entry.until)
  pub quiet : ((n ≡ word / 2) × ((knows w s).finds ≡ (knows v s).finds)) ⊎ (entry.until < word / 2)

-- the call from v to w loaded the indirection word, which names no tail record, and no other word
pub record LoadsHead (v w : View) (s rec : ℕ) : Type 0 where
  pub word : ℕ
  pub head : Looked v w s (HeadWord rec) word
  pub none : word / 2 ≡ 0

-- the same of a row with a version, with the pages of all columns: each tail record of which it loaded words is above the TPS of the page of some
-- column, if that entry's time is at most the begin
pub record SavesByPages (v w : View) (s rec : ℕ) : Type 0 where
  pub headed : View
  pub word : ℕ
  pub head : Looked v headed s (HeadWord rec) word
  pub some : 0 < word / 2
  pub page : (column : ℕ) → column < v.limits.columns → ReadsPage headed w s rec column
  pub soon : LoadsOf v w s (λ t. (column : ℕ) × (low : column < v.limits.columns) × (time_of (page column low).stamp ≤ (knows v s).begin → IsAbove v rec (page column low).tps t))
  pub quiet : ((column : ℕ) (low : column < v.limits.columns) → (word / 2 ≤ (page column low).tps) × (time_of (page column low).stamp ≤ (knows v s).begin)) → (knows w s).finds ≡ (knows v s).finds

-- of a record without a version no page is looked at
abbrev pub SavesRow : View → View → ℕ → ℕ → Type 0
SavesRow v w s rec = LoadsHead v w s rec ⊎ SavesByPages v w s rec
