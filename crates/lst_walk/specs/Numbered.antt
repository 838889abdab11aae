-- Tails of a range that are looked at by their numbers, and the chains that they are on.
use Rattle.std.specs.Prelude.{◌≡◌, ℕ, zero, suc, ◌+◌, ◌*◌, ◌%◌, ◌<◌, ◌≤◌, List, [], ◌∷◌, ◌++◌, Bool, true, false, cond, eqb, ◌&&◌, length, Option, None, unwrap_or, slice_index, slice_set}
use Rattle.std.specs.List.{Contains}
use Rattle.lst_layout.specs.declared.limits.Limits.{Limits}
use Rattle.lst_bits.specs.Times.{time_of, is_present}
use Rattle.lst_model.specs.Histories.{row_from}
use Rattle.lst_core_state.specs.Lists.{Has, acts, above}
use Rattle.lst_core_state.specs.declared.known.Known.{Known}
use Rattle.lst_core_state.specs.Cells.{range_of, kind_of, mask_of, slot_of, has_bit}
use Rattle.lst_core_state.specs.declared.facts.Fact.{Fact}
use Rattle.lst_pages.specs.Frames.{tps_in, stamp_in}
use Rattle.lst_rule.specs.declared.view.View.{View}
use Rattle.lst_rule.specs.Rule.{knows, hosts}
use Rattle.lst_rule.specs.Learned.{Possible}
use Rattle.lst_rule.specs.Copies.{Version, fact_of, tails_of, IsVersionOf, IsChainFrom, IsCopy}
use Rattle.lst_rule.specs.Seen.{sees, seen_acts}
use Rattle.lst_rule.specs.Loads.{ChainFound}
use Rattle.lst_rule.specs.Laws.{KeptBy}
use Rattle.lst_walk.specs.Patches.{cell_in}
use Rattle.lst_walk.specs.Pages.{IsPageOf}
use Rattle.lst_walk.specs.Walks.{IsSightOf, IsCellOf}

-- ---- chains that are known

-- the view hosts the session s, which has a transaction open, and no tail in hand whose start word is stored
pub record HasNoTail (v : View) (s : ℕ) : Type 0 where
  pub host : hosts v s ≡ true
  pub opened : (knows v s).is_open ≡ true
  pub hand : (knows v s).hold.is_whole ≡ false

-- the facts of the session s have this copy of a record's whole chain, as it was at some time, and what is seen of the copy is all that is seen of the record
pub record KnowsChain (v : View) (s rec : ℕ) (copy : List Version) : Type 0 where
  pub head : ℕ
  pub is : IsCopy v.limits (knows v s).facts rec head copy
  pub sees : IsSightOf (knows v s) rec (seen_acts (knows v s) s copy)

-- once a load found a chain, it is known so
abbrev pub ChainsAreKnown : Type 0
ChainsAreKnown = (v : View) (s rec head : ℕ) → (knows v s).is_open ≡ true → (found : ChainFound v.limits (knows v s) s rec head) → KnowsChain v s rec found.copy

-- and stays so while the session only looks: while it sees the same, and keeps its facts and what it has in hand
abbrev pub ChainsStayKnown : Type 0
ChainsStayKnown = (v w : View) (s rec : ℕ) (copy : List Version) → Possible v → Possible w → HasNoTail v s → hosts w s ≡ true → w.limits ≡ v.limits → KeptBy (knows v s) (knows w s) → KnowsChain v s rec copy → HasNoTail w s × KnowsChain w s rec copy

-- SEEN MEANS KNOWN: whenever a version comes to be known that the transaction sees, it is one of the copy
abbrev pub SeenAreKnown : Type 0
SeenAreKnown = (v : View) (s rec : ℕ) (copy : List Version) (c : Version) → Possible v → HasNoTail v s → KnowsChain v s rec copy → IsVersionOf v.limits rec c → Contains (knows v s).facts (fact_of c) → sees (knows v s) s c.writer ≡ true → Has c.tail (tails_of copy)

-- ---- all tails of a range by number

-- the versions that the session s sees, oldest first. The versions stand newest first
abbrev pub seen_versions : Known → ℕ → List Version → List Version
seen_versions v s [] = []
seen_versions v s (c ∷ cs) = cond (sees v s c.writer) (seen_versions v s cs ++ c ∷ []) (seen_versions v s cs)

-- the m tails above `low` were looked at. Told are those of the record that the session s sees, each with its version; of another tail no version is known that
-- is seen, so far as it is on the copy. No tail of the copy is above them
pub record TellsTails (v : View) (s rec low m : ℕ) (copy : List Version) (told : ℕ → Bool) (version : ℕ → Version) : Type 0 where
  pub all : (t : ℕ) → Has t (tails_of copy) → t ≤ low + m
  pub at : (t : ℕ) → low < t → t ≤ low + m → told t ≡ true → (version t).tail ≡ t
  pub is : (t : ℕ) → low < t → t ≤ low + m → told t ≡ true → IsVersionOf v.limits rec (version t)
  pub known : (t : ℕ) → low < t → t ≤ low + m → told t ≡ true → Contains (knows v s).facts (fact_of (version t))
  pub seen : (t : ℕ) → low < t → t ≤ low + m → told t ≡ true → sees (knows v s) s (version t).writer ≡ true
  pub else : (c : Version) → low < c.tail → c.tail ≤ low + m → told c.tail ≡ false → Has c.tail (tails_of copy) → Contains (knows v s).facts (fact_of c) → sees (knows v s) s c.writer ≡ false

-- each tail of these versions is above n, or none is
abbrev pub AreOver : ℕ → List Version → Type 0
AreOver n cs = (t : ℕ) → Has t (tails_of cs) → n < t

abbrev pub AreUpTo : ℕ → List Version → Type 0
AreUpTo n cs = (t : ℕ) → Has t (tails_of cs) → t ≤ n

-- what was told, by rising number, are the versions of the copy above `low` that are seen, oldest first
abbrev pub TailsTellCopies : Type 0
TailsTellCopies = (v : View) (s rec low m : ℕ) (newer older : List Version) (told : ℕ → Bool) (version : ℕ → Version) → Possible v → HasNoTail v s → KnowsChain v s rec (newer ++ older) → AreOver low newer → AreUpTo low older
    → TellsTails v s rec low m (newer ++ older) told version → acts told version (above low m) ≡ seen_versions (knows v s) s newer

-- ---- the number of a column

-- what a version leaves of the number of a column, 0 for null and where there is no row: its own, where its mask has the column, and none after a delete
abbrev pub number_by : ℕ → Version → ℕ → ℕ
number_by column c x = cond (has_bit (mask_of c.encoding) column) (slice_index c.values column) (cond (eqb (kind_of c.encoding) 3) 0 x)

-- a loop over the m tails above `low`, by rising number, which starts with x
abbrev pub number_from : (ℕ → Bool) → (ℕ → Version) → ℕ → ℕ → ℕ → ℕ → ℕ
number_from told version column low x zero = x
number_from told version column low x (suc m) = cond (told (low + suc m)) (number_by column (version (low + suc m)) (number_from told version column low x m)) (number_from told version column low x m)

-- the number of a column in a row, 0 for null and where there is no row
abbrev pub number_in : ℕ → Option (List (Option ℕ)) → ℕ
number_in column row = unwrap_or (cell_in column row) 0

-- where it starts with what is seen of the older versions, the loop ends with the number of the column in the row that is seen of the record
abbrev pub FoldsAreCells : Type 0
FoldsAreCells = (v : View) (s rec column low m x : ℕ) (newer older : List Version) (told : ℕ → Bool) (version : ℕ → Version) → Possible v → HasNoTail v s → column < v.limits.columns → KnowsChain v s rec (newer ++ older) → AreOver low newer → AreUpTo low older
    → TellsTails v s rec low m (newer ++ older) told version → x ≡ number_in column (row_from None (seen_acts (knows v s) s older))
    → (cell : Option ℕ) × IsCellOf v s rec column cell × (number_from told version column low x m ≡ unwrap_or cell 0)

-- ---- with the page of the column

-- a copy of a chain is those of its versions above any number, and then those up to it
abbrev pub CopiesAreCut : Type 0
CopiesAreCut = (l : Limits) (facts : List Fact) (rec n low : ℕ) (copy : List Version) → IsChainFrom l facts rec n copy
    → (newer : List Version) × (older : List Version) × (copy ≡ newer ++ older) × AreOver low newer × AreUpTo low older

-- the number that a page with these words, which has these values, has of the column at a slot: 0 where the entry is absent
abbrev pub number_at_slot : (ℕ → ℕ) → List ℕ → ℕ → ℕ
number_at_slot words values slot = cond (is_present (stamp_in words slot)) (slice_index values slot) 0

-- where the time of the entry is at most the begin, its number is that of what is seen of the versions up to the page's TPS, whatever is seen of newer ones
abbrev pub EntriesAreOlder : Type 0
EntriesAreOlder = (v : View) (s rec column : ℕ) (newer older : List Version) (words : ℕ → ℕ) → (page : IsPageOf v rec column words) → HasNoTail v s → column < v.limits.columns → KnowsChain v s rec (newer ++ older)
    → AreOver (range_of rec * v.limits.tails + tps_in words) newer → AreUpTo (range_of rec * v.limits.tails + tps_in words) older → time_of (stamp_in words (rec % 256)) ≤ (knows v s).begin
    → number_in column (row_from None (seen_acts (knows v s) s older)) ≡ number_at_slot words page.right.entries.values (rec % 256)

-- so the loop over the tails above the TPS, from the number of the entry on, ends with the number of the column in the row that is seen of the record
abbrev pub FoldsOnPages : Type 0
FoldsOnPages = (v : View) (s rec column m : ℕ) (copy : List Version) (words : ℕ → ℕ) (told : ℕ → Bool) (version : ℕ → Version) → (page : IsPageOf v rec column words) → HasNoTail v s → column < v.limits.columns → KnowsChain v s rec copy
    → time_of (stamp_in words (rec % 256)) ≤ (knows v s).begin → TellsTails v s rec (range_of rec * v.limits.tails + tps_in words) m copy told version
    → (cell : Option ℕ) × IsCellOf v s rec column cell × (number_from told version column (range_of rec * v.limits.tails + tps_in words) (number_at_slot words page.right.entries.values (rec % 256)) m ≡ unwrap_or cell 0)

-- ---- all records of a range at once

-- a loop over an array: each tail that is told changes the number at its slot
abbrev pub numbers_from : (ℕ → Bool) → (ℕ → Version) → ℕ → ℕ → List ℕ → ℕ → List ℕ
numbers_from told version column low numbers zero = numbers
numbers_from told version column low numbers (suc m) = let before : List ℕ = numbers_from told version column low numbers m in let t : ℕ = low + suc m in
    cond (told t) (slice_set before (slot_of (version t).encoding) (number_by column (version t) (slice_index before (slot_of (version t).encoding)))) before

-- those at one slot
abbrev pub told_at : (ℕ → Bool) → (ℕ → Version) → ℕ → ℕ → Bool
told_at told version i t = told t && eqb (slot_of (version t).encoding) i

-- of each record it is the loop over what is told of it
abbrev pub ArraysAreFolds : Type 0
ArraysAreFolds = (told : ℕ → Bool) (version : ℕ → Version) (column low : ℕ) (numbers : List ℕ) (m i : ℕ) → i < length numbers
    → slice_index (numbers_from told version column low numbers m) i ≡ number_from (told_at told version i) version column low (slice_index numbers i) m
