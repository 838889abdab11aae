-- The positions of a column's postings, the run of a value through them, and which tails stand there.
use Rattle.std.specs.Prelude.{◌≡◌, ℕ, zero, suc, ◌+◌, ◌-◌, ◌<◌, Bool, true, false, cond, not, eqb, ◌&&◌}
use Rattle.lst_layout.specs.declared.limits.Limits.{Limits}
use Rattle.lst_layout.specs.Areas.{posting_bits, posting_positions, IsIndexed}
use Rattle.lst_probe.specs.Run.{start_of, run_position, IsReachable}
use Rattle.lst_core_state.specs.Cells.{has_number}
use Rattle.lst_core_state.specs.State.{Words, record_in}
use Rattle.lst_core_state.specs.declared.known.Hold.{Hold}

-- positions of one column
unfoldable pub postings_size : Limits → ℕ
postings_size l = posting_positions l

-- the first position of a value
unfoldable pub value_first : Limits → ℕ → ℕ
value_first l value = start_of value (posting_bits l)

-- the i-th position of a value's run
abbrev pub value_position : Limits → ℕ → ℕ → ℕ
value_position l value i = run_position (postings_size l) (value_first l value) i

-- the tail is of the record, and its word of the column is the value
abbrev pub IsAlike : Limits → (ℕ → ℕ → ℕ) → ℕ → ℕ → ℕ → ℕ → Type 0
IsAlike l cells column r value t = (record_in l cells t ≡ r) × (cells t (3 + column) ≡ value)

-- among the tails that stand at a column's positions is one of the record with the value, in the value's run with no empty position
-- before it
pub record IsPosted (l : Limits) (cells : ℕ → ℕ → ℕ) (tails : ℕ → ℕ) (column r value : ℕ) : Type 0 where
  pub position : ℕ
  pub reached : IsReachable tails (postings_size l) (value_first l value) position
  pub some : 0 < tails position
  pub alike : IsAlike l cells column r value (tails position)

-- each indexed column that the tail t of the record r holds with a number is posted
abbrev pub ArePosted : Limits → (ℕ → ℕ → ℕ) → (ℕ → ℕ → ℕ) → ℕ → ℕ → Type 0
ArePosted l cells postings r t = (column : ℕ) → column < l.columns → IsIndexed l column → has_number (cells t 1) column ≡ true → IsPosted l cells (postings column) column r (cells t (3 + column))

-- the tail in hand leads to the head that was found, and each indexed column that it holds with a number is posted
abbrev pub IsPut : Limits → Words → Hold → Type 0
IsPut l w h = (w.cells h.tail 2 ≡ h.head) × ArePosted l w.cells w.postings (h.latch - 1) h.tail

-- the tail in hand holds the column with a number, and isn't posted there yet; the position q is in that number's run, and none before it is empty
pub record IsPostable (l : Limits) (w : Words) (h : Hold) (column q : ℕ) : Type 0 where
  pub number : has_number (w.cells h.tail 1) column ≡ true
  pub reached : IsReachable (w.postings column) (postings_size l) (value_first l (w.cells h.tail (3 + column))) q
  pub unposted : ¬ IsPosted l w.cells (w.postings column) column (h.latch - 1) (w.cells h.tail (3 + column))

-- ---- what a load of a position shows

-- the same as a test
abbrev pub is_alike : Limits → (ℕ → ℕ → ℕ) → ℕ → ℕ → ℕ → ℕ → Bool
is_alike l cells column r value t = eqb (record_in l cells t) r && eqb (cells t (3 + column)) value

-- a run, of which n positions from the i-th on are left, comes to its first empty position at the goal, and no word before it passes
abbrev pub ends_at : (ℕ → ℕ) → (ℕ → Bool) → (ℕ → ℕ) → ℕ → ℕ → ℕ → Bool
ends_at word passes position goal zero i = false
ends_at word passes position goal (suc n) i = cond (eqb (word (position i)) 0) (eqb (position i) goal) (not (passes (word (position i))) && ends_at word passes position goal n (suc i))

-- the tail in hand is whole and holds the column with a number, whose run ends at the position q with no posting of its record and number
abbrev pub is_unposted : Limits → Words → Hold → ℕ → ℕ → Bool
is_unposted l w h column q = h.is_whole && (has_number (w.cells h.tail 1) column
    && ends_at (w.postings column) (is_alike l w.cells column (h.latch - 1) (w.cells h.tail (3 + column))) (value_position l (w.cells h.tail (3 + column))) q (postings_size l) 0)
