-- The positions of a table and the runs through them. What stands at each position is a function from position to word;
-- 0 is an empty position.
use Rattle.std.specs.Prelude.{◌≡◌, ℕ, ◌+◌, ◌-◌, ◌*◌, ◌/◌, ◌%◌, ◌^◌, ◌<◌, Bool, false}

abbrev pub IsPowerOfTwo : ℕ → Type 0
IsPowerOfTwo n = (bits : ℕ) × (n ≡ 2 ^ bits)

-- the position at which the run of a value begins, in a table of 2 ^ bits positions
unfoldable pub start_of : ℕ → ℕ → ℕ
start_of value bits = (value * 11400714819323198485) % 2 ^ 64 / 2 ^ (64 - bits)

-- the k-th position, from 0, of the run from `from` on through n positions: after the last one comes the first
unfoldable pub run_position : ℕ → ℕ → ℕ → ℕ
run_position n from k = (from + k) % n

-- the first k positions of the run are filled, each with another word than the one that is looked for
abbrev pub Passes : (ℕ → ℕ) → (ℕ → Type 0) → ℕ → ℕ → ℕ → Type 0
Passes word IsOther n from k = (i : ℕ) → i < k → (0 < word (run_position n from i)) × IsOther (word (run_position n from i))

-- the run comes to the position, with nothing before it but filled positions with other words
pub record Reaches (word : ℕ → ℕ) (IsOther : ℕ → Type 0) (n from position : ℕ) : Type 0 where
  pub offset : ℕ
  pub short : offset < n
  pub is : position ≡ run_position n from offset
  pub passes : Passes word IsOther n from offset

-- the position is in the run from `start` on, and nothing before it is empty
pub record IsReachable (word : ℕ → ℕ) (n start position : ℕ) : Type 0 where
  pub offset : ℕ
  pub short : offset < n
  pub is : position ≡ run_position n start offset
  pub filled : (i : ℕ) → i < offset → 0 < word (run_position n start i)

-- ---- laws

-- the positions of a run are within the table
abbrev pub RunsAreInside : Type 0
RunsAreInside = (n from k : ℕ) → 0 < n → run_position n from k < n

-- the first n of them differ
abbrev pub RunsAreApart : Type 0
RunsAreApart = (n from i j : ℕ) → from < n → i < n → j < n → run_position n from i ≡ run_position n from j → i ≡ j

-- and are all positions of the table
abbrev pub RunsCover : Type 0
RunsCover = (n from position : ℕ) → from < n → position < n → (k : ℕ) × (k < n) × (run_position n from k ≡ position)

-- where a run passes only other words and then comes to an empty position, no filled position that is reachable from its
-- start has a word that is the same
abbrev pub AbsentFromRun : Type 0
AbsentFromRun = (word : ℕ → ℕ) (same : ℕ → Bool) (n from k : ℕ) → from < n → k < n → Passes word (λ w. same w ≡ false) n from k → word (run_position n from k) ≡ 0
    → (position : ℕ) → IsReachable word n from position → 0 < word position → same (word position) ≡ false

-- a position that is reachable stays so while filled positions stay filled
abbrev pub ReachableStays : Type 0
ReachableStays = (word later : ℕ → ℕ) (n start position : ℕ) → ((q : ℕ) → 0 < word q → 0 < later q) → IsReachable word n start position → IsReachable later n start position
