-- What is kept along a run to know the floor of each session.
use Rattle.std.specs.Prelude.{◌≡◌, ℕ, ◌==◌, cond, max, List, Option, Some, None}
use Rattle.lst_model.specs.declared.commits.Commit.{Commit}
use Rattle.lst_replies.specs.Runs.{Answered, commit_times}
use Rattle.lst_replies.specs.States.{greatest, times_told, ended_phases, floor_of}
use Rattle.lst_replies.specs.Explained.{TimeIsBounded}
use Rattle.lst_legal_runs.specs.declared.floors.Floors.{Floors}
use Rattle.lst_legal_runs.specs.Marks.{number_at}
use Rattle.lst_legal_runs.specs.Places.{IfCall}

-- the greater one of a number and another, if there is one
abbrev pub max_with : ℕ → Option ℕ → ℕ
max_with number None = number
max_with number (Some other) = max number other

-- a time was told to a session, or none
pub record IsTold (old new : Floors) (session : ℕ) (time : Option ℕ) : Type 0 where
  pub told : (other : ℕ) → number_at new.told other 0 0 ≡ cond (session == other) (max_with (number_at old.told other 0 0) time) (number_at old.told other 0 0)
  pub ended : new.ended ≡ old.ended
  pub latest : new.latest ≡ old.latest

-- the floors behind the front of a run
pub record AreFloors (floors : Floors) (front : List Answered) : Type 0 where
  pub told : (session : ℕ) → number_at floors.told session 0 0 ≡ greatest (times_told session front)
  pub ended : floors.ended ≡ greatest (commit_times (ended_phases front))
  pub latest : floors.latest ≡ greatest (commit_times front)

abbrev pub TellsTime : List Commit → List Answered → Answered → Type 0
TellsTime history before one = IfCall (λ session call reply. TimeIsBounded history (floor_of session before) call reply) one.line one.reply
