-- What is kept along a run to judge full tables and full ranges.
use Rattle.std.specs.Prelude.{◌≡◌, ◌↔◌, ℕ, ◌<◌, ◌==◌, ◌&&◌, Bool, false, List, Option, Some, None, IfSome, IsTrue}
use Rattle.std.specs.List.{count_by, list_any}
use Rattle.lst_layout.specs.declared.limits.Limits.{Limits}
use Rattle.lst_model.specs.declared.commits.Commit.{Commit}
use Rattle.lst_replies.specs.Runs.{Answered, write_of, is_by, is_accepted_on, is_accepted, may_take_record}
use Rattle.lst_replies.specs.States.{state_of}
use Rattle.lst_replies.specs.Explained.{FullnessIsExplained}
use Rattle.lst_legal_runs.specs.declared.marks.Marks.{Marks}
use Rattle.lst_legal_runs.specs.declared.fullness.Fullness.{Fullness}
use Rattle.lst_legal_runs.specs.Marks.{number_at}
use Rattle.lst_legal_runs.specs.Places.{IfCall}
use Rattle.lst_legal_runs.specs.Firsts.{AreFirstWrites}

-- there is a session with a key, and it is this one with this key
abbrev pub names_both : ℕ → ℕ → Option (ℕ × ℕ) → Bool
names_both session key None = false
names_both session key (Some both) = both.0 == session && both.1 == key

-- by session and key: whether the session has an accepted write on it
abbrev pub AreWritten : Marks → List Answered → Type 0
AreWritten marks front = (session key : ℕ) → (0 < number_at marks session key 0) ↔ IsTrue (list_any (λ one. is_by session one && is_accepted_on key one) front)

-- what is the same along the run
pub record IsFullnessOf (fullness : Fullness) (history : List Commit) (run : List Answered) : Type 0 where
  pub takers : fullness.takers ≡ count_by may_take_record run
  pub accepted : fullness.accepted ≡ count_by is_accepted run
  pub firsts : AreFirstWrites fullness.firsts history

abbrev pub TellsFullness : Limits → List Commit → List Answered → List Answered → Answered → Type 0
TellsFullness limits history run before one = IfCall (λ session call reply.
    IfSome (state_of session before).current (λ transaction. IfSome (write_of call) (λ write. FullnessIsExplained limits history run before session transaction write reply))) one.line one.reply
