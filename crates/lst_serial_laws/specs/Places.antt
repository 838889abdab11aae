-- Serial places: a transaction's reads answer the table as of the time before its commit.
use Rattle.std.specs.Prelude.{◌≡◌, ℕ, ◌+◌, ◌-◌, ◌≤◌, List, [], ◌∷◌, ◌++◌, Bool, true, false, length, take, drop}
use Rattle.lst_model.specs.declared.acts.Write.{Write}
use Rattle.lst_model.specs.declared.commits.Commit.{Commit}
use Rattle.lst_model.specs.Tables.{row_of, sum_of, count_of, scan_of, find_of}
use Rattle.lst_model.specs.Histories.{table_at, snapshot, all_acts_on}

-- the commits at the times above b up to t
abbrev pub between : List Commit → ℕ → ℕ → List Commit
between history b t = drop b (take t history)

-- no commit above b and up to t wrote the key
abbrev pub IsUnwritten : List Commit → ℕ → ℕ → ℕ → Type 0
IsUnwritten history b t key = all_acts_on key (between history b t) ≡ []

-- the tables as of two times agree on the row of a key
abbrev pub AgreesOn : List Commit → ℕ → ℕ → ℕ → Type 0
AgreesOn history b t key = row_of (table_at history t) key ≡ row_of (table_at history b) key

-- ---- the clause on a commit

-- what a transaction has read: keys one by one, or all
-- the tables as of the begin and as of the time before the commit agree on what was read
pub record IsInPlace (reads : ℕ → Bool) (all : Bool) (history : List Commit) (begin time : ℕ) : Type 0 where
  pub rows : (key : ℕ) → reads key ≡ true → AgreesOn history begin (time - 1) key
  pub whole : all ≡ true → table_at history (time - 1) ≡ table_at history begin

-- ---- what follows for each answer

-- whatever own writes stood before it: a read of a row, and whether a write fits, is answered alike
pub record SameAt (history : List Commit) (begin time : ℕ) (own : List Write) (key : ℕ) : Type 0 where
  pub row : row_of (snapshot history (time - 1) own) key ≡ row_of (snapshot history begin own) key

-- and where the tables are equal every question is
pub record SameWhole (history : List Commit) (begin time : ℕ) (own : List Write) : Type 0 where
  pub table : snapshot history (time - 1) own ≡ snapshot history begin own
  pub sum : (column : ℕ) → sum_of (snapshot history (time - 1) own) column ≡ sum_of (snapshot history begin own) column
  pub count : count_of (snapshot history (time - 1) own) ≡ count_of (snapshot history begin own)
  pub scan : scan_of (snapshot history (time - 1) own) ≡ scan_of (snapshot history begin own)
  pub find : (column value : ℕ) → find_of (snapshot history (time - 1) own) column value ≡ find_of (snapshot history begin own) column value

abbrev pub PlacesAnswerKeys : Type 0
PlacesAnswerKeys = (reads : ℕ → Bool) (all : Bool) (history : List Commit) (begin time : ℕ) → IsInPlace reads all history begin time → (own : List Write) (key : ℕ) → reads key ≡ true → SameAt history begin time own key

abbrev pub PlacesAnswerAll : Type 0
PlacesAnswerAll = (reads : ℕ → Bool) (history : List Commit) (begin time : ℕ) → IsInPlace reads true history begin time → (own : List Write) → SameWhole history begin time own

-- ---- what the check at the commit gives

-- no key that was read was written above the begin and below the commit's time, and where all were read there is no such commit
pub record IsChecked (reads : ℕ → Bool) (all : Bool) (history : List Commit) (begin time : ℕ) : Type 0 where
  pub early : begin ≤ time - 1
  pub few : time - 1 ≤ length history
  pub keys : all ≡ false → (key : ℕ) → reads key ≡ true → IsUnwritten history begin (time - 1) key
  pub none : all ≡ true → time - 1 ≡ begin

abbrev pub ChecksPlace : Type 0
ChecksPlace = (reads : ℕ → Bool) (all : Bool) (history : List Commit) (begin time : ℕ) → IsChecked reads all history begin time → IsInPlace reads all history begin time

-- ---- the check, made with the whole history seen, and then the commit

-- of the history so far: no commit above the begin wrote a key that was read; where all were read, there is none above it
pub record IsUnchanged (reads : ℕ → Bool) (all : Bool) (history : List Commit) (begin : ℕ) : Type 0 where
  pub begun : begin ≤ length history
  pub keys : all ≡ false → (key : ℕ) → reads key ≡ true → all_acts_on key (drop begin history) ≡ []
  pub none : all ≡ true → length history ≡ begin

-- then the commit that is entered next is at its serial place, in the history with it and in each longer one
abbrev pub UnchangedIsPlaced : Type 0
UnchangedIsPlaced = (reads : ℕ → Bool) (all : Bool) (history : List Commit) (commit : Commit) (rest : List Commit) (begin : ℕ) → IsUnchanged reads all history begin
    → IsInPlace reads all (history ++ commit ∷ rest) begin (length history + 1)
