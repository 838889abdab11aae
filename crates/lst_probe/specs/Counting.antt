-- How many different numbers there can be, and that few of them leave an empty position.
use Rattle.std.specs.Prelude.{◌≡◌, ◌≢◌, ℕ, zero, suc, ◌+◌, ◌<◌, ◌≤◌, List, length, nat_lt}
use Rattle.std.specs.List.{All, AllPairs, Contains, count_by}
use Rattle.lst_probe.specs.Run.{run_position}

-- f at the numbers below n, added up
abbrev pub total : ℕ → (ℕ → ℕ) → ℕ
total zero f = 0
total (suc n) f = total n f + f n

-- ---- the pigeonhole principle

-- where each number below n has another number below m, n is at most m
abbrev pub Pigeonhole : Type 0
Pigeonhole = (n m : ℕ) (f : ℕ → ℕ) → ((i : ℕ) → i < n → f i < m) → ((i j : ℕ) → i < n → j < n → f i ≡ f j → i ≡ j) → n ≤ m

-- a list without repeats, all of whose items stand in another list, is no longer than that
abbrev pub DistinctWithin : Type 0 → Type 0
DistinctWithin X = (items within : List X) → AllPairs (λ one other. one ≢ other) items → All (Contains within) items → length items ≤ length within

-- a list of numbers below m without repeats has at most m
abbrev pub DistinctAreFew : Type 0
DistinctAreFew = (m : ℕ) (numbers : List ℕ) → All (λ number. number < m) numbers → AllPairs (λ one other. one ≢ other) numbers → length numbers ≤ m

-- a list in which all numbers below n stand has at least n
abbrev pub CoveringIsLong : Type 0
CoveringIsLong = (n : ℕ) (numbers : List ℕ) → ((number : ℕ) → number < n → Contains numbers number) → n ≤ length numbers

-- lists of m owners, in which each number below n stands with some owner, have at least n in all
abbrev pub OwnersAreMany : Type 0
OwnersAreMany = (n m : ℕ) (owned : ℕ → List ℕ) (owner : ℕ → ℕ) → ((number : ℕ) → number < n → (owner number < m) × Contains (owned (owner number)) number) → n ≤ total m (λ one. length (owned one))

-- ---- empty positions

-- fewer filled positions than positions leave an empty one
abbrev pub FewerLeaveEmpty : Type 0
FewerLeaveEmpty = (positions : List ℕ) → count_by (λ word. nat_lt 0 word) positions < length positions → Contains positions 0

-- fewer entries than positions leave an empty one: entries are the numbers from 1 to m, and each stands in one position at most
abbrev pub EntriesLeaveEmpty : Type 0
EntriesLeaveEmpty = (word : ℕ → ℕ) (n m : ℕ) → m < n → ((q : ℕ) → q < n → word q ≤ m) → ((p q : ℕ) → p < n → q < n → 0 < word p → word p ≡ word q → p ≡ q) → (q : ℕ) × (q < n) × (word q ≡ 0)

-- where some position is empty, each run comes to an empty one, and that one is the first
abbrev pub RunsEnd : Type 0
RunsEnd = (word : ℕ → ℕ) (n from q : ℕ) → from < n → q < n → word q ≡ 0 → (k : ℕ) × (k < n) × (word (run_position n from k) ≡ 0) × ((i : ℕ) → i < k → 0 < word (run_position n from i))
