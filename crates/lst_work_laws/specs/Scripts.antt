-- A script of several phases, and what the replies to all its lines tell.
use Rattle.std.specs.Prelude.{◌≡◌, ◌≢◌, ℕ, ◌<◌, ◌≤◌, List, [], Option, length, slice_index_or}
use Rattle.std.specs.List.{All, AllPairs, Contains, count_by, sum_by}
use Rattle.lst_layout.specs.declared.limits.Limits.{Limits}
use Rattle.lst_model.specs.declared.commits.Commit.{Commit}
use Rattle.lst_model.specs.declared.lines.Line.{Line}
use Rattle.lst_model.specs.declared.replies.Reply.{Reply}
use Rattle.lst_model.specs.Histories.{Extends}
use Rattle.lst_model.specs.Lines.{LineFits}
use Rattle.lst_core_state.specs.declared.known.Known.{Known}
use Rattle.lst_core_state.specs.declared.known.Done.{Done as Deed}
use Rattle.lst_core_state.specs.State.{mine}
use Rattle.lst_rule.specs.Seen.{HasKey}
use Rattle.lst_replies.specs.Runs.{Answered, commit_times, run_of, AtEachCall, is_accepted, may_take_record}
use Rattle.lst_replies.specs.States.{unbegun, state_of, floor_of}
use Rattle.lst_replies.specs.Explained.{TimeIsBounded, ReadIsAnswered, WriteIsAnswered, HasAccepted}
use Rattle.lst_replies.specs.Levels.{StateIsToldAtAnyLevel}
use Rattle.lst_replies.specs.ReplyKinds.{HaveReplyShape}
use Rattle.lst_replies.specs.Legal.{IsEntered, AtEachWrite}
use Rattle.lst_rule.specs.declared.store.Store.{Store}
use Rattle.lst_rule.specs.declared.view.View.{View}
use Rattle.lst_session.specs.declared.session.Session.{Session}
use Rattle.lst_work_laws.specs.Lines.{session_told}
use Rattle.lst_work_laws.specs.Works.{Works}
use Rattle.lst_work_laws.specs.Whole.{AreAll}
use Rattle.lst_session.specs.Parting.{known_by}
use Rattle.lst_work_laws.specs.Laws.{HasHeld}

-- the session has begun no transaction, and has written, latched, drawn and committed nothing
pub record IsFresh (session : Session) : Type 0 where
  pub state : session_told (known_by session) ≡ unbegun
  pub done : (known_by session).done ≡ []
  pub latched : (known_by session).latched ≡ []
  pub drawn : (known_by session).placing.drawn ≡ []
  pub mine : mine session.number (known_by session) ≡ []

abbrev pub AreFresh : List Session → Type 0
AreFresh sessions = (s : ℕ) (d : Session) → s < length sessions → IsFresh (slice_index_or sessions s d)

-- the history goes on from what each session has seen
abbrev pub GoesOn : List Commit → List Session → Type 0
GoesOn history sessions = (s : ℕ) (d : Session) → s < length sessions → Extends history (known_by (slice_index_or sessions s d)).seen

-- the rules of a legal report, at any level of isolation, that speak of one line of one session, each at every line of a run
pub record RunIsTold (limits : Limits) (run : List Answered) (history : List Commit) : Type 0 where
  pub entered : AtEachCall (IsEntered history) run
  pub once : AllPairs (λ time other. time ≢ other) (commit_times run)
  pub times : AtEachCall (λ before session call reply. TimeIsBounded history (floor_of session before) call reply) run
  pub reads : AtEachCall (λ before session call reply. ReadIsAnswered limits history (state_of session before).current call reply) run
  pub refusals : AtEachCall (λ before session call reply. StateIsToldAtAnyLevel limits (state_of session before) call reply) run
  pub writes : AtEachWrite (λ before session transaction write reply. WriteIsAnswered history transaction write reply) run

-- the record of this write has a key on which the session's transaction of its number has a write that was accepted, somewhere in the run
pub record WasAccepted (run : List Answered) (s : ℕ) (now : Known) (deed : Deed) : Type 0 where
  pub key : ℕ
  pub placed : HasKey now.facts deed.rec key
  pub accepted : HasAccepted run s deed.number key

-- The replies to a script: one of its kind for each line, and they tell what is so under each history that goes on from what the sessions have
-- seen in the end. Each write that a session ever made is one that was accepted, and for each latch that it held a line may have held it.
-- Together they have made as many writes as were accepted, and drawn no more records than inserts may have taken.
-- Where the history has no other commits than their own, each of its times is told.
pub record ScriptTold (limits : Limits) (lines : List Line) (replies : List (Option ℕ × Reply)) (sessions : List Session) : Type 0 where
  pub shape : HaveReplyShape lines replies
  pub told : (history : List Commit) → GoesOn history sessions → RunIsTold limits (run_of lines replies) history
  pub complete : (history : List Commit) → GoesOn history sessions → length history ≡ sum_by (λ session. length (mine session.number (known_by session))) sessions → (time : ℕ) → 0 < time → time ≤ length history → Contains (commit_times (run_of lines replies)) time
  pub accepted : (s : ℕ) (d : Session) (deed : Deed) → s < length sessions → Contains (known_by (slice_index_or sessions s d)).done deed → WasAccepted (run_of lines replies) s (known_by (slice_index_or sessions s d)) deed
  pub latched : (s : ℕ) (d : Session) (rec : ℕ) → s < length sessions → Contains (known_by (slice_index_or sessions s d)).latched rec → HasHeld s (run_of lines replies) (known_by (slice_index_or sessions s d)) rec
  pub done : sum_by (λ session. length (known_by session).done) sessions ≡ count_by is_accepted (run_of lines replies)
  pub drawn : sum_by (λ session. length (known_by session).placing.drawn) sessions ≤ count_by may_take_record (run_of lines replies)

-- Where the sessions have begun nothing and run through a script, its replies tell what is so, by the floors of a legal report.
abbrev pub ScriptIsTold : Type 0
ScriptIsTold = (store : Store) (lines : List Line) (old new : List Session) (m n : View) (replies : List (Option ℕ × Reply))
    → AreAll store old → AreAll store new → All (LineFits store.layout.limits.sessions store.layout.limits.ranges store.layout.limits.columns) lines
    → Works store lines old new m n replies → AreFresh old → ScriptTold store.layout.limits lines replies new
