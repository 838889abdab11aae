-- The rules of a legal report, each as what it asks at one line behind the front of a run.
use Rattle.std.specs.Prelude.{◌≡◌, ◌⊎◌, ℕ, List}
use Rattle.lst_layout.specs.declared.limits.Limits.{Limits}
use Rattle.lst_model.specs.declared.lines.Call.{Call as CallKind}
use Rattle.lst_model.specs.declared.replies.Reply.{Reply}
use Rattle.lst_model.specs.declared.replies.Reply.TheVariants.{Committed, Refused}
use Rattle.lst_model.specs.declared.replies.Cause.TheVariants.{Stale}
use Rattle.lst_replies.specs.declared.states.SessionState.{SessionState}
use Rattle.lst_replies.specs.Runs.{Answered}
use Rattle.lst_replies.specs.States.{state_of}
use Rattle.lst_replies.specs.Explained.{StateIsTold}
use Rattle.lst_replies.specs.Levels.{StateIsToldAtAnyLevel}
use Rattle.lst_legal_runs.specs.declared.levels.Level.{Level}
use Rattle.lst_legal_runs.specs.declared.levels.Level.TheVariants.{Snapshot, Serializable}
use Rattle.lst_legal_runs.specs.Places.{IfCall}

-- what a session's state tells of a call's reply: under snapshot isolation no commit is told stale
abbrev pub StateIsToldAt : Level → Limits → SessionState → CallKind → Reply → Type 0
StateIsToldAt Snapshot limits state call reply = StateIsTold limits state call reply
StateIsToldAt Serializable limits state call reply = StateIsToldAtAnyLevel limits state call reply

-- a commit of writes has its time, or is told stale
abbrev pub CommitsOrStays : Reply → Type 0
CommitsOrStays reply = ((time : ℕ) × (reply ≡ Committed time)) ⊎ ((time : ℕ) × (reply ≡ Refused (Stale time)))

abbrev pub TellsState : Level → Limits → List Answered → Answered → Type 0
TellsState level limits before one = IfCall (λ session call reply. StateIsToldAt level limits (state_of session before) call reply) one.line one.reply
