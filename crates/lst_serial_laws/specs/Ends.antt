-- How commits end at the serializable level, line by line, and that the whole report is legal then.
use Rattle.std.specs.Prelude.{ℕ, List, Bool, Option, IfSome}
use Rattle.std.specs.List.{list_any}
use Rattle.lst_layout.specs.declared.limits.Limits.{Limits}
use Rattle.lst_model.specs.declared.commits.Commit.{Commit}
use Rattle.lst_model.specs.declared.lines.Line.{Line}
use Rattle.lst_model.specs.declared.replies.Reply.{Reply}
use Rattle.lst_replies.specs.declared.reports.Report.{Report}
use Rattle.lst_replies.specs.declared.states.Transaction.{Transaction}
use Rattle.lst_replies.specs.Runs.{Answered, AtEachCall, run_of, names, commit_time}
use Rattle.lst_replies.specs.States.{state_of}
use Rattle.lst_replies.specs.Levels.{StateIsToldAtAnyLevel}
use Rattle.lst_replies.specs.Legal.{FollowsRules}
use Rattle.lst_serial_laws.specs.Places.{IsInPlace}
use Rattle.lst_serial_laws.specs.Legal.{lines_since_begin, key_named, reads_table, StaleIsExplained, IsLegalSerial}

-- whether one of these lines names the key
abbrev pub is_key_named : List Answered → ℕ → Bool
is_key_named lines key = list_any (λ one. names key (key_named one.line)) lines

-- whether one of these lines was answered off the whole table
abbrev pub is_table_read : List Answered → Bool
is_table_read lines = list_any (λ one. reads_table one.reply) lines

-- What a transaction's lines have read is in place at the time that its commit is told; no other reply is asked of.
abbrev pub CommitIsPlaced : List Commit → List Answered → ℕ → Option Transaction → Reply → Type 0
CommitIsPlaced history before session current reply = IfSome current (λ transaction. IfSome (commit_time reply) (λ time.
    IsInPlace (is_key_named (lines_since_begin session before)) (is_table_read (lines_since_begin session before)) history transaction.begin time))

-- a call ends its transaction in place, or stays with its reason
pub record EndsInPlace (history : List Commit) (before : List Answered) (session : ℕ) (current : Option Transaction) (reply : Reply) : Type 0 where
  pub placed : CommitIsPlaced history before session current reply
  pub stale : StaleIsExplained history before session current reply

-- A report that follows the nine rules, with the wider one on ends, is legal at the serializable level where each call ends in place.
abbrev pub EndsAreLegal : Type 0
EndsAreLegal = (limits : Limits) (lines : List Line) (report : Report) (history : List Commit) → FollowsRules StateIsToldAtAnyLevel limits lines report history
    → AtEachCall (λ before session call reply. EndsInPlace history before session (state_of session before).current reply) (run_of lines report.replies)
    → IsLegalSerial limits lines report history
