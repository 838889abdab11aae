-- A loop over the tails of a range that folds those that are seen into an array of the records' numbers.
use Rattle.std.specs.Prelude.{◌≡◌, ◌⊎◌, ℕ, zero, suc, ◌+◌, ◌*◌, ◌<◌, ◌≤◌, List, true, false, length, Option, unwrap_or, slice_index, slice_set}
use Rattle.std.specs.List.{Contains}
use Rattle.lst_layout.specs.declared.TheConstants.{RANGE_RECORDS}
use Rattle.lst_layout.specs.declared.place.Place.TheVariants.{CellWord, TailCounter}
use Rattle.lst_bits.specs.Times.{time_of}
use Rattle.lst_core_state.specs.Lists.{Has}
use Rattle.lst_core_state.specs.Cells.{record_count, range_of, slot_of}
use Rattle.lst_pages.specs.Frames.{tps_in, stamp_in}
use Rattle.lst_rule.specs.declared.view.View.{View}
use Rattle.lst_rule.specs.Rule.{knows, hosts}
use Rattle.lst_rule.specs.Learned.{Possible}
use Rattle.lst_rule.specs.Copies.{Version, fact_of, tails_of, IsVersionOf}
use Rattle.lst_rule.specs.Seen.{sees}
use Rattle.lst_rule.specs.Stores.{Looked}
use Rattle.lst_rule.specs.Laws.{KeptBy}
use Rattle.lst_walk.specs.Pages.{IsPageOf}
use Rattle.lst_walk.specs.Walks.{IsCellOf}
use Rattle.lst_walk.specs.Numbered.{HasNoTail, KnowsChain, number_by, number_at_slot}

-- the tail t of the range has this version, which the session s sees
pub record IsTold (v : View) (s range t : ℕ) (c : Version) : Type 0 where
  pub at : c.tail ≡ t
  pub is : IsVersionOf v.limits (RANGE_RECORDS * range + slot_of c.encoding) c
  pub known : Contains (knows v s).facts (fact_of c)
  pub seen : sees (knows v s) s c.writer ≡ true

-- of the versions that were known in the view u none at the tail t is seen. So it is where the start word is empty, or names a transaction that isn't seen
abbrev pub IsUntold : View → View → ℕ → ℕ → Type 0
IsUntold u v s t = (c : Version) → Contains (knows u s).facts (fact_of c) → c.tail ≡ t → sees (knows v s) s c.writer ≡ false

-- what a version that is told makes of the array
abbrev pub changed_by : ℕ → Version → List ℕ → List ℕ
changed_by column c numbers = slice_set numbers (slot_of c.encoding) (number_by column c (slice_index numbers (slot_of c.encoding)))

-- the loop has come from `first` to these numbers by the m tails above `low`, by rising number. In the view u the chains were found
abbrev pub FoldsTails : View → View → (s range column low : ℕ) → List ℕ → ℕ → List ℕ → Type 0
FoldsTails u v s range column low first zero numbers = numbers ≡ first
FoldsTails u v s range column low first (suc m) numbers = (before : List ℕ) × FoldsTails u v s range column low first m before
    × (((c : Version) × IsTold v s range (low + suc m) c × (numbers ≡ changed_by column c before)) ⊎ (IsUntold u v s (low + suc m) × (numbers ≡ before)))

-- what a look at a tail tells the loop: an empty start word, that nothing is told
abbrev pub EmptyIsUntold : Type 0
EmptyIsUntold = (u v w : View) (s t : ℕ) → hosts v s ≡ true → KeptBy (knows u s) (knows v s) → Looked v w s (CellWord t 0) 0 → IsUntold u w s t

-- a version that isn't seen, the same
abbrev pub UnseenIsUntold : Type 0
UnseenIsUntold = (u w : View) (s t : ℕ) (c : Version) → Possible w → hosts w s ≡ true → KeptBy (knows u s) (knows w s) → Contains (knows w s).facts (fact_of c) → c.tail ≡ t → sees (knows w s) s c.writer ≡ false → IsUntold u w s t

-- and one that is seen, that it is told
abbrev pub SeenIsTold : Type 0
SeenIsTold = (w : View) (s range rec t : ℕ) (c : Version) → range * w.limits.tails < t → t ≤ range * w.limits.tails + w.limits.tails → c.tail ≡ t → IsVersionOf w.limits rec c → Contains (knows w s).facts (fact_of c) → sees (knows w s) s c.writer ≡ true → IsTold w s range t c

-- it has so in every later view
abbrev pub FoldsStay : Type 0
FoldsStay = (u v w : View) (s range column low m : ℕ) (first numbers : List ℕ) → KeptBy (knows v s) (knows w s) → w.limits ≡ v.limits → FoldsTails u v s range column low first m numbers → FoldsTails u w s range column low first m numbers

-- where the array began with the page's numbers and every tail drawn by the time of the view u was gone over, it has at each slot whose entry's time is at most the begin the
-- number of the column in the row that is seen of the record, 0 for null and where there is no row
abbrev pub FoldsAreNumbers : Type 0
FoldsAreNumbers = (u w : View) (s range column m i : ℕ) (copy : List Version) (words : ℕ → ℕ) (first numbers : List ℕ) → (page : IsPageOf w (RANGE_RECORDS * range + i) column words)
    → Possible u → HasNoTail u s → hosts w s ≡ true → w.limits ≡ u.limits → KeptBy (knows u s) (knows w s) → column < w.limits.columns → i < RANGE_RECORDS → i < length first
    → KnowsChain u s (RANGE_RECORDS * range + i) copy → ((t : ℕ) → Has t (tails_of copy) → t ≤ range * w.limits.tails + tps_in words + m)
    → FoldsTails u w s range column (range * w.limits.tails + tps_in words) first m numbers → slice_index first i ≡ number_at_slot words page.right.entries.values i → time_of (stamp_in words i) ≤ (knows w s).begin
    → (cell : Option ℕ) × IsCellOf w s (RANGE_RECORDS * range + i) column cell × (slice_index numbers i ≡ unwrap_or cell 0)

-- ---- from the load of the tail counter on

-- the session s knows the chain of each record of the range, and no tail on them has a number above n
abbrev pub KnowsRange : View → (s range n : ℕ) → Type 0
KnowsRange v s range n = (rec : ℕ) → rec < record_count v.limits → range_of rec ≡ range → (copy : List Version) × KnowsChain v s rec copy × ((t : ℕ) → Has t (tails_of copy) → t ≤ range * v.limits.tails + n)

-- so it is once the range's tail counter was loaded, by one that reads, for the number found, and for the limit, which a counter may pass
abbrev pub CountersTellRanges : Type 0
CountersTellRanges = (v w : View) (s range x n : ℕ) → HasNoTail v s → (knows v s).hold.latch ≡ 0 → range < v.limits.ranges → Looked v w s (TailCounter range) x → (n ≡ x) ⊎ (n ≡ v.limits.tails) → KnowsRange w s range n

-- and what the loop leaves, where it went on up to n: with no tail above the TPS this is what the page says
abbrev pub RangesAreFolded : Type 0
RangesAreFolded = (u w : View) (s range column n m i : ℕ) (words : ℕ → ℕ) (first numbers : List ℕ) → (page : IsPageOf w (RANGE_RECORDS * range + i) column words)
    → Possible u → HasNoTail u s → hosts w s ≡ true → w.limits ≡ u.limits → KeptBy (knows u s) (knows w s) → column < w.limits.columns → i < RANGE_RECORDS → i < length first
    → range < u.limits.ranges → KnowsRange u s range n → n ≤ tps_in words + m
    → FoldsTails u w s range column (range * w.limits.tails + tps_in words) first m numbers → slice_index first i ≡ number_at_slot words page.right.entries.values i → time_of (stamp_in words i) ≤ (knows w s).begin
    → (cell : Option ℕ) × IsCellOf w s (RANGE_RECORDS * range + i) column cell × (slice_index numbers i ≡ unwrap_or cell 0)
