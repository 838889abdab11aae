-- What a session at work keeps of its reads, and what the end of its transaction tells at the serializable level.
use Rattle.std.specs.Prelude.{ℕ, List, Bool, true, false, Option, IfSome, Result, Ok, Err}
use Rattle.lst_model.specs.declared.commits.Commit.{Commit}
use Rattle.lst_model.specs.declared.lines.Call.{Call}
use Rattle.lst_model.specs.declared.lines.Call.TheVariants.{Commit as CommitCall}
use Rattle.lst_model.specs.declared.replies.Reply.{Reply}
use Rattle.lst_model.specs.declared.replies.Reply.TheVariants.{Committed, Ended, Refused}
use Rattle.lst_model.specs.declared.replies.Cause.TheVariants as cause
use Rattle.lst_model.specs.Histories.{Extends}
use Rattle.lst_rule.specs.declared.view.View.{View}
use Rattle.lst_rule.specs.Rule.{knows}
use Rattle.lst_replies.specs.Runs.{commit_time}
use Rattle.lst_replies.specs.Levels.{stale_time}
use Rattle.lst_session.specs.declared.kinds.Outcome.{Outcome}
use Rattle.lst_session.specs.declared.kinds.Outcome.TheVariants as outcome
use Rattle.lst_session.specs.declared.session.Session.{Session}
use Rattle.lst_serial.specs.declared.keys.KeySet.{KeySet}
use Rattle.lst_serial.specs.declared.kinds.SerialEnd.{SerialEnd}
use Rattle.lst_serial.specs.declared.kinds.SerialEnd.TheVariants as end
use Rattle.lst_serial.specs.Keys.{has}
use Rattle.lst_serial_laws.specs.Places.{IsInPlace}
use Rattle.lst_work_laws.specs.Keeping.{Pass, IsChanged}
use Rattle.lst_work.specs.declared.reads.Reads.{Reads}

-- what a session knows, and what it keeps of its reads
abbrev pub pass_of : Session → Reads → Pass
pass_of session reads = record { known = knows session.seat.view session.number; reads = has reads.keys; whole = reads.all }

abbrev pub is_commit : Call → Bool
is_commit CommitCall = true
is_commit call = false

-- the reply to a commit at the serializable level
abbrev pub end_reply : Result Outcome SerialEnd → Reply
end_reply (Ok (outcome.Committed time)) = Committed time
end_reply (Ok (outcome.Ended time)) = Ended time
end_reply (Err end.Idle) = Refused cause.Idle
end_reply (Err (end.Stale time)) = Refused (cause.Stale time)

-- what was read is in place at the commit that is told, and was changed where it is told stale, under what was seen and each longer history
pub record EndsRead (v w : View) (s : ℕ) (keys : KeySet) (all : Bool) (reply : Reply) : Type 0 where
  pub placed : IfSome (commit_time reply) (λ time. (history : List Commit) → Extends history (knows w s).seen → IsInPlace (has keys) all history (knows v s).begin time)
  pub stale : IfSome (stale_time reply) (λ time. (history : List Commit) → Extends history (knows w s).seen → IsChanged history (has keys) all (knows v s).begin time)
