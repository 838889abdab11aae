-- A page, of whose words those are loaded that its form takes.
use Rattle.std.specs.Prelude.{◌≡◌, ◌↔◌, ℕ, zero, suc, ◌+◌, ◌/◌, ◌^◌, ◌<◌, ◌≤◌, List, slice_index}
use Rattle.lst_layout.specs.declared.TheConstants.{RANGE_RECORDS, FRAME_TIMES}
use Rattle.lst_kernel.specs.Entries.{lane_of}
use Rattle.lst_pack.specs.Forms.{Packs}
use Rattle.lst_pages.specs.Frames.{packed_in}
use Rattle.lst_pages.specs.Lists.{listed}
use Rattle.lst_rule.specs.declared.view.View.{View}
use Rattle.lst_walk.specs.Taken.{Keeps}

-- the time words of a frame
abbrev pub stamps_of : (ℕ → ℕ) → List ℕ
stamps_of words = listed words FRAME_TIMES RANGE_RECORDS

-- the session s has the page of the range and the column in hand, in this frame, and some tail record is merged into it
abbrev pub IsInHand : View → (s range column frame : ℕ) → Type 0
IsInHand v s range column frame = (tps : ℕ) × Keeps v s range column frame tps × (0 < tps)

-- the session s has the page of the range and the column in hand, some tail record is merged into it, and these are its TPS and its time words
pub record HasPage (v : View) (s range column tps : ℕ) (stamps : List ℕ) : Type 0 where
  pub frame : ℕ
  pub keeps : Keeps v s range column frame tps
  pub some : 0 < tps
  pub are : stamps ≡ stamps_of (slice_index keeps.page.words)

-- its packed words stand for no other values
abbrev pub HasValues : {v : View} {s range column tps : ℕ} {stamps : List ℕ} → HasPage v s range column tps stamps → List ℕ → Type 0
HasValues page values = (others : List ℕ) → Packs (packed_in (slice_index page.keeps.page.words)) others → values ≡ others

-- what the first n entries of a page add for a reader that began at this time, by their time words, where each that it sees adds a value
unfoldable pub entries_add : ℕ → (ℕ → ℕ) → List ℕ → ℕ → ℕ
entries_add begin value times zero = 0
entries_add begin value times (suc n) = entries_add begin value times n + lane_of begin (value n) (slice_index times n)

-- each entry adds its value, for a reader that began at this time
abbrev pub AddsAll : ℕ → List ℕ → List ℕ → Type 0
AddsAll begin values times = (i : ℕ) → i < RANGE_RECORDS → lane_of begin (slice_index values i) (slice_index times i) ≡ slice_index values i

-- the greatest word of which half is at most this number
abbrev pub IsLastWord : ℕ → ℕ → Type 0
IsLastWord half last = (word : ℕ) → word < 2 ^ 64 → (word ≤ last) ↔ (word / 2 ≤ half)
