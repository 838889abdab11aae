-- A walk along a key's run through the index, and along a value's run through a column's postings.
use Rattle.std.specs.Prelude.{◌≡◌, ◌≢◌, ℕ, ◌+◌, ◌<◌, true}
use Rattle.lst_layout.specs.declared.limits.Limits.{Limits}
use Rattle.lst_layout.specs.Words.{Words}
use Rattle.lst_layout.specs.Areas.{IsIndexed}
use Rattle.lst_probe.specs.Run as run
use Rattle.lst_core_state.specs.Cells.{has_number}
use Rattle.lst_core_state.specs.Index.{position_of, Passes}
use Rattle.lst_core_state.specs.Postings.{postings_size, value_first, value_position, IsAlike, IsPosted}

-- the positions before the offset are filled, and none has the record
abbrev pub Seeks : Limits → Words → ℕ → ℕ → ℕ → Type 0
Seeks l w key r offset = (i : ℕ) → i < offset → (0 < w.index (position_of l key i)) × (w.index (position_of l key i) ≢ r + 1)

-- the walk has passed the positions before the offset, and none is the position q
abbrev pub Comes : Limits → Words → ℕ → ℕ → ℕ → Type 0
Comes l w key q offset = Passes l w.keys w.index key offset × ((i : ℕ) → i < offset → position_of l key i ≢ q)

-- the positions of the value's run before the offset are filled, and none has a tail of the record with the value
abbrev pub SeeksTail : Limits → Words → ℕ → ℕ → ℕ → ℕ → Type 0
SeeksTail l w column r value offset = run.Passes (w.postings column) (λ t. ¬ IsAlike l w.cells column r value t) (postings_size l) (value_first l value) offset

-- the positions of the value's run before the offset are filled, and none of them is the position q
abbrev pub ComesToTail : Limits → Words → ℕ → ℕ → ℕ → ℕ → Type 0
ComesToTail l w column value q offset = (i : ℕ) → i < offset → (0 < w.postings column (value_position l value i)) × (value_position l value i ≢ q)

-- the column isn't indexed, or the tail of the record doesn't hold it with a number, or it is posted
abbrev pub IsSettled : Limits → Words → ℕ → ℕ → ℕ → Type 0
IsSettled l w r t column = IsIndexed l column → has_number (w.cells t 1) column ≡ true → IsPosted l w.cells (w.postings column) column r (w.cells t (3 + column))

-- and so each column before this one
abbrev pub AreSettled : Limits → Words → ℕ → ℕ → ℕ → Type 0
AreSettled l w r t n = (column : ℕ) → column < n → IsSettled l w r t column
