-- The positions of the index, and the run of a key.
use Rattle.std.specs.Prelude.{◌≡◌, ◌≢◌, ℕ, zero, suc, ◌+◌, ◌-◌, ◌<◌, Bool, false, eqb, ◌||◌}
use Rattle.lst_layout.specs.declared.limits.Limits.{Limits}
use Rattle.lst_layout.specs.Areas.{index_bits, index_positions}
use Rattle.lst_probe.specs.Run.{start_of, run_position}

unfoldable pub size : Limits → ℕ
size l = index_positions l

-- the first position of a key
unfoldable pub first_of : Limits → ℕ → ℕ
first_of l key = start_of key (index_bits l)

-- the i-th position of a key's run
abbrev pub position_of : Limits → ℕ → ℕ → ℕ
position_of l key i = run_position (size l) (first_of l key) i

-- one of the first n positions holds the record
abbrev pub held_in : ℕ → (ℕ → ℕ) → ℕ → Bool
held_in zero index r = false
held_in (suc n) index r = eqb (index n) (r + 1) || held_in n index r

-- the record is in the index
unfoldable pub is_placed : Limits → (ℕ → ℕ) → ℕ → Bool
is_placed l index r = held_in (size l) index r

-- each position of the key's run before the n-th holds a record of another key
abbrev pub Passes : Limits → (ℕ → ℕ) → (ℕ → ℕ) → ℕ → ℕ → Type 0
Passes l keys index key n = (i : ℕ) → i < n → (0 < index (position_of l key i)) × (keys (index (position_of l key i) - 1) ≢ key)

-- the key may stand at the position q, and at none before it in its run
abbrev pub Reaches : Limits → (ℕ → ℕ) → (ℕ → ℕ) → ℕ → ℕ → Type 0
Reaches l keys index key q = (n : ℕ) × (n < size l) × (q ≡ position_of l key n) × Passes l keys index key n
