-- Accepted writes that a page has folded, in the words of the machine's state; and records of which a read needs no tail record, in the words of the store.
use Rattle.std.specs.Prelude.{◌≡◌, ◌⊎◌, ℕ, ◌/◌, ◌%◌, ◌<◌, ◌≤◌, true, Some, slice_get}
use Rattle.lst_layout.specs.declared.limits.Limits.{Limits}
use Rattle.lst_bits.specs.Times.{time_of}
use Rattle.lst_machine.specs.State.{Accepted, Store, State}
use Rattle.lst_machine.specs.Writes as machine
use Rattle.lst_core_state.specs.Cells.{range_of}
use Rattle.lst_core_state.specs.State.{Words}
use Rattle.lst_pages.specs.Frames.{stamp_in}
use Rattle.lst_pages.specs.Sound.{tps_at}

-- ---- accepted writes

-- the write's transaction was closed, or committed at most at the time
abbrev pub IsEndedBy : Store → (time : ℕ) → Accepted → Type 0
IsEndedBy store time write = (store.closed write.session write.number ≡ true) ⊎ ((at : ℕ) × (machine.time_of store.history write.session write.number ≡ Some at) × (at ≤ time))

-- the write at this place of its range's list, counted from 0, is one of those that the page of the column has folded, and its transaction has ended by the
-- time
pub record IsFolded (state : State) (range column time place : ℕ) (write : Accepted) : Type 0 where
  pub folded : place < state.pages.tps range column
  pub ended : IsEndedBy state.store time write

-- each accepted write on the key
abbrev pub AreFolded : State → (key column time : ℕ) → Type 0
AreFolded state key column time = let range : ℕ = machine.range_of state.store.placed key in
    (place : ℕ) (write : Accepted) → slice_get (state.store.accepted range) place ≡ Some write → write.write.key ≡ key → IsFolded state range column time place write

-- each accepted write
abbrev pub AreAllFolded : Limits → State → (column time : ℕ) → Type 0
AreAllFolded limits state column time = (range place : ℕ) (write : Accepted) → range < limits.ranges → slice_get (state.store.accepted range) place ≡ Some write → IsFolded state range column time place write

-- ---- records

-- a read of the column of the record at the time needs no tail record: the page has folded the number of the record's newest version, and the record's
-- entry there is of the time or earlier
pub record NeedsNoTail (w : Words) (rec column time : ℕ) : Type 0 where
  pub folded : w.heads rec / 2 ≤ tps_at w.directory w.frames (range_of rec) column
  pub early : time_of (stamp_in (w.frames (w.directory (range_of rec) column)) (rec % 256)) ≤ time
