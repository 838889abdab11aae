-- What a session has done by a place of a run, and the least time that it can be told there.
use Rattle.std.specs.Prelude.{ℕ, ◌+◌, max, List, [], ◌∷◌, Bool, true, false, cond, Option, Some, None}
use Rattle.std.specs.List.{filter, filter_map, list_any}
use Rattle.lst_model.specs.declared.acts.Write.{Write}
use Rattle.lst_model.specs.declared.commits.Commit.{Commit}
use Rattle.lst_model.specs.declared.lines.Line.{Line}
use Rattle.lst_model.specs.declared.lines.Line.TheVariants.{Phase, Merge, Call}
use Rattle.lst_model.specs.declared.lines.Call.{Call as CallKind}
use Rattle.lst_model.specs.declared.lines.Call.TheVariants.{AsOf}
use Rattle.lst_model.specs.declared.replies.Reply.{Reply}
use Rattle.lst_model.specs.declared.replies.Reply.TheVariants.{Begun, Done, Committed, Ended, Aborted, Refused}
use Rattle.lst_model.specs.declared.replies.Cause.TheVariants.{Future, Newer}
use Rattle.lst_model.specs.Tables.{Rows}
use Rattle.lst_model.specs.Histories.{snapshot, joined}
use Rattle.lst_replies.specs.declared.states.Transaction.{Transaction}
use Rattle.lst_replies.specs.declared.states.SessionState.{SessionState}
use Rattle.lst_replies.specs.Runs.{Answered, write_of, is_by, is_phase, commit_times}

-- ---- the state of a session

-- a session that has begun nothing
abbrev pub unbegun : SessionState
unbegun = record { begun = 0; current = None }

abbrev pub is_as_of : CallKind → Bool
is_as_of (AsOf time) = true
is_as_of call = false

-- one more transaction, open from this begin on
abbrev pub with_begun : ℕ → Bool → SessionState → SessionState
with_begun begin read_only state = record {
  begun = state.begun + 1;
  current = Some (record { number = state.begun + 1; begin = begin; read_only = read_only; writes = [] });
}

-- a write joins those of the open transaction
abbrev pub with_write : Option Write → Option Transaction → Option Transaction
with_write None current = current
with_write (Some write) None = None
with_write (Some write) (Some transaction) = Some (record transaction { writes = joined transaction.writes write })

-- the state behind a call, by the reply: Begun opens a transaction, Done adds the write, and the three replies to an end close it
abbrev pub after_call : CallKind → Reply → SessionState → SessionState
after_call call (Begun time) state = with_begun time (is_as_of call) state
after_call call Done state = record state { current = with_write (write_of call) state.current }
after_call call (Committed time) state = record state { current = None }
after_call call (Ended time) state = record state { current = None }
after_call call Aborted state = record state { current = None }
after_call call reply state = state

-- the state of a session behind a line: those of others change nothing
abbrev pub after_line : ℕ → Answered → SessionState → SessionState
after_line session one state = cond (is_by session one) (changed one.line) state
  where
    changed : Line → SessionState
    changed Phase = state
    changed (Merge range column) = state
    changed (Call speaker call) = after_call call one.reply state

-- the state of a session behind a part of a run that it enters in this state
abbrev pub state_from : SessionState → ℕ → List Answered → SessionState
state_from state session [] = state
state_from state session (one ∷ rest) = state_from (after_line session one state) session rest

-- the state of a session behind the front of a run
abbrev pub state_of : ℕ → List Answered → SessionState
state_of session before = state_from unbegun session before

-- what an open transaction sees
abbrev pub sight_of : List Commit → Transaction → Rows
sight_of history transaction = snapshot history transaction.begin transaction.writes

-- the commit of a session's transaction
abbrev pub commit_of : ℕ → Transaction → Commit
commit_of session transaction = record { session = session; number = transaction.number; begin = transaction.begin; writes = transaction.writes }

-- ---- the floor

-- the greatest of some times, or 0 where there is none
abbrev pub greatest : List ℕ → ℕ
greatest [] = 0
greatest (time ∷ times) = max time (greatest times)

-- a time of the history that a reply tells
abbrev pub time_told : Reply → Option ℕ
time_told (Begun time) = Some time
time_told (Committed time) = Some time
time_told (Ended time) = Some time
time_told (Refused (Newer time)) = Some time
time_told (Refused (Future clock)) = Some clock
time_told reply = None

-- the times that were told to a session
abbrev pub times_told : ℕ → List Answered → List ℕ
times_told session before = filter_map (λ one. time_told one.reply) (filter (is_by session) before)

-- the front of a run up to the last end of a phase
abbrev pub ended_phases : List Answered → List Answered
ended_phases [] = []
ended_phases (one ∷ rest) = cond (list_any (λ other. is_phase other.line) (one ∷ rest)) (one ∷ ended_phases rest) []

-- The floor of a session: the greatest time that was told to it, and of the commits in the phases that have ended, by whomever.
abbrev pub floor_of : ℕ → List Answered → ℕ
floor_of session before = max (greatest (times_told session before)) (greatest (commit_times (ended_phases before)))
