-- When a scan loads no word of a tail record.
use Rattle.std.specs.Prelude.{◌≡◌, ℕ, ◌<◌, ◌≤◌, List, true, slice_index}
use Rattle.lst_layout.specs.declared.TheConstants.{RANGE_RECORDS}
use Rattle.lst_core_state.specs.Cells.{record_count}
use Rattle.lst_pages.specs.Frames.{stamp_in}
use Rattle.lst_pages.specs.Sound.{tps_at}
use Rattle.lst_rule.specs.declared.view.View.{View}
use Rattle.lst_rule.specs.Rule.{knows}
use Rattle.lst_rule.specs.TailLoads.{LoadsOf}
use Rattle.lst_walk.specs.Chains.{IsTailOf}
use Rattle.lst_refinement.specs.Folding.{AreAllFolded, NeedsNoTail}
use Rattle.lst_session.specs.Calls.{LoadsNoTail}
use Rattle.lst_session.specs.Crews.{TellsState, words_of, state_told}

-- a tail record of one of the records from `low` up to and without `high`, of which a read of the column needs a tail record: its page doesn't tell it
abbrev pub IsOfUntold : View → View → (s column low high : ℕ) → ℕ → Type 0
IsOfUntold v w s column low high t = (rec : ℕ) × (low ≤ rec) × (rec < high) × (NeedsNoTail (words_of v) rec column (knows v s).begin → ⊥) × IsTailOf w s rec t

-- where the view knows each word, and the session is pinned, a scan of the records from `low` up to and without `high` loads words of no other tail records than
-- those of records that their pages don't tell. Where a read of the column needs a tail record of none of them, it finds nothing: it loads no word of a tail record
abbrev pub SavesPart : View → View → (s column low high : ℕ) → Type 0
SavesPart v w s column low high = v.whole ≡ true → 0 < (knows v s).pages.session.pin
    → (((rec : ℕ) → low ≤ rec → rec < high → NeedsNoTail (words_of v) rec column (knows v s).begin) → (knows w s).finds ≡ (knows v s).finds) × LoadsOf v w s (IsOfUntold v w s column low high)

-- where the view knows each word, and the session is pinned, the page of the range and the column stands in this frame
abbrev pub TellsFrame : View → (s range column frame : ℕ) → Type 0
TellsFrame v s range column frame = v.whole ≡ true → 0 < (knows v s).pages.session.pin → frame ≡ (words_of v).directory range column

-- where it does, these are that page's TPS and its time words
abbrev pub TellsStamps : View → (s range column tps : ℕ) → List ℕ → Type 0
TellsStamps v s range column tps stamps = v.whole ≡ true → 0 < (knows v s).pages.session.pin
    → (tps ≡ tps_at (words_of v).directory (words_of v).frames range column) × ((slot : ℕ) → slot < RANGE_RECORDS → slice_index stamps slot ≡ stamp_in ((words_of v).frames ((words_of v).directory range column)) slot)

-- where it does, no tail record is merged into that page
abbrev pub TellsNone : View → (s range column : ℕ) → Type 0
TellsNone v s range column = v.whole ≡ true → 0 < (knows v s).pages.session.pin → tps_at (words_of v).directory (words_of v).frames range column ≡ 0

-- a sum of a column by a session of a crew that tells a state of the machine: where a transaction is open, and the pages of the column have folded
-- each accepted write, ended by its begin, no word of a tail record was loaded; whatever they have folded, words of no other tail records were than those of
-- records that their pages don't tell. A count does the same as a sum of the first column
abbrev pub SavesSum : View → View → (s column : ℕ) → Type 0
SavesSum v w s column = TellsState v → (knows v s).is_open ≡ true
    → (AreAllFolded v.limits (state_told v) column (knows v s).begin → LoadsNoTail v w s) × LoadsOf v w s (IsOfUntold v w s column 0 (record_count v.limits))
