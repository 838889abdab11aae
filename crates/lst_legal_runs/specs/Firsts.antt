-- The first commits of a history that pass a test.
use Rattle.std.specs.Prelude.{◌↔◌, ℕ, ◌<◌, ◌≤◌, ◌==◌, ◌&&◌, Bool, cond, List, IsTrue, length, take}
use Rattle.std.specs.List.{list_any}
use Rattle.lst_model.specs.declared.commits.Commit.{Commit}
use Rattle.lst_replies.specs.Explained.{has_write_on, is_numbered}
use Rattle.lst_legal_runs.specs.declared.marks.Marks.{Marks}
use Rattle.lst_legal_runs.specs.Marks.{number_at}

-- the time of the first commit that passes a test, or 0 where none does
pub record IsFirst (test : Commit → Bool) (history : List Commit) (time : ℕ) : Type 0 where
  pub most : time ≤ length history
  pub by : (begin : ℕ) → IsTrue (list_any test (take begin history)) ↔ ((0 < time) × (time ≤ begin))

-- by key: the time of the first commit with a write on it
abbrev pub AreFirstWrites : Marks → List Commit → Type 0
AreFirstWrites marks history = (key : ℕ) → IsFirst (has_write_on key) history (number_at marks key 0 0)

-- by session and number: the time of the first commit of this name
abbrev pub AreFirstNumbers : Marks → List Commit → Type 0
AreFirstNumbers marks history = (session number : ℕ) → IsFirst (is_numbered session number) history (number_at marks session number 0)

-- the first time, after one commit more
abbrev pub first_after : Bool → ℕ → ℕ → ℕ
first_after passes first time = cond (first == 0 && passes) time first
