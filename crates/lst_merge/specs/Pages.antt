-- A page in hand, the entries that it says, and the words of a page.
use Rattle.std.specs.Prelude.{◌≡◌, ℕ, suc, ◌+◌, ◌*◌, ◌<◌, List, [], ◌∷◌, eqb, false, cond, length, slice_index}
use Rattle.lst_layout.specs.declared.TheConstants.{RANGE_RECORDS}
use Rattle.lst_layout.specs.declared.limits.Limits.{Limits}
use Rattle.lst_bits.specs.Times.{is_present}
use Rattle.lst_model.specs.Cells.{changed_number}
use Rattle.lst_core_state.specs.declared.known.Known.{Known}
use Rattle.lst_pack.specs.Forms.{Packs}
use Rattle.lst_pages.specs.declared.entries.Entry.{Entry}
use Rattle.lst_pages.specs.declared.tails.PageTail.{PageTail}
use Rattle.lst_pages.specs.Tails.{touches}
use Rattle.lst_pages.specs.Entries.{entry_by, folded}
use Rattle.lst_pages.specs.Frames.{packed_in, stamp_in, entry_in}
use Rattle.lst_merge.specs.Runs.{KnowsSettled}

-- ---- a page in hand: the words of a frame, and the values of its records

-- the entry that they say at a slot
abbrev pub entry_of : (ℕ → ℕ) → List ℕ → ℕ → Entry
entry_of words values i = entry_in words (slice_index values i) i

-- the values are the numbers of the entries' cells, and 0 where an entry is absent
abbrev pub AreNumbers : (ℕ → ℕ) → List ℕ → Type 0
AreNumbers words values = (i : ℕ) → i < RANGE_RECORDS → slice_index values i ≡ changed_number (entry_of words values i).cell

-- the values are those for which the packed words of the frame stand, and 0 where an entry is absent
abbrev pub AreValuesIn : (ℕ → ℕ) → List ℕ → Type 0
AreValuesIn words values = (packed : List ℕ) → Packs (packed_in words) packed → (i : ℕ) → i < RANGE_RECORDS → slice_index values i ≡ cond (is_present (stamp_in words i)) (slice_index packed i) 0

-- the entries are those that the words of a frame say, with the values for which its packed words stand
abbrev pub AreEntriesIn : (ℕ → ℕ) → (ℕ → Entry) → Type 0
AreEntriesIn words entries = (values : List ℕ) → Packs (packed_in words) values → (i : ℕ) → i < RANGE_RECORDS → entries i ≡ entry_in words (slice_index values i) i

-- the value of each absent entry is 0
abbrev pub AreAbsentZero : (ℕ → ℕ) → Type 0
AreAbsentZero words = (values : List ℕ) → Packs (packed_in words) values → (i : ℕ) → i < RANGE_RECORDS → is_present (stamp_in words i) ≡ false → slice_index values i ≡ 0

-- the entry at one slot is this one, and the others stay
abbrev pub IsWith : ℕ → Entry → (ℕ → Entry) → (ℕ → Entry) → Type 0
IsWith slot entry before after = (i : ℕ) → i < RANGE_RECORDS → after i ≡ cond (eqb slot i) entry (before i)

-- ---- folds

-- the entries of column c after one tail more
abbrev pub Folds : ℕ → PageTail → (ℕ → Entry) → (ℕ → Entry) → Type 0
Folds c t before after = (i : ℕ) → i < RANGE_RECORDS → after i ≡ cond (touches c i t) (entry_by c t) (before i)

-- and after these
abbrev pub FoldsAll : ℕ → List PageTail → (ℕ → Entry) → (ℕ → Entry) → Type 0
FoldsAll c ts before after = (i : ℕ) → i < RANGE_RECORDS → after i ≡ folded (touches c i) c (before i) ts

-- these are the tails of the range after number p, each known to be settled
abbrev pub AreKnown : Limits → Known → ℕ → ℕ → List PageTail → Type 0
AreKnown l k range p [] = Unit {0}
AreKnown l k range p (t ∷ ts) = KnowsSettled k (range * l.tails + suc p) t × AreKnown l k range (suc p) ts

-- the tails of the range after number p, up to number n, are known to be settled, and were folded
pub record FoldsRun (l : Limits) (k : Known) (range c p n : ℕ) (before after : ℕ → Entry) : Type 0 where
  pub tails : List PageTail
  pub known : AreKnown l k range p tails
  pub long : p + length tails ≡ n
  pub folds : FoldsAll c tails before after
