-- What holds once every session has come through the run of a script, and nothing is in hand: the causes that a legal report asks for.
use Rattle.std.specs.Prelude.{◌≡◌, ℕ, ◌<◌, ◌≤◌, List, [], Option, true, length, slice_index_or}
use Rattle.std.specs.List.{All, count_by}
use Rattle.lst_layout.specs.Words.{shown}
use Rattle.lst_model.specs.declared.lines.Line.{Line}
use Rattle.lst_model.specs.declared.replies.Reply.{Reply}
use Rattle.lst_model.specs.Lines.{LineFits}
use Rattle.lst_core_state.specs.declared.known.Known.{Known}
use Rattle.lst_core_state.specs.State.{Core, history_of}
use Rattle.lst_core_state.specs.Sound.{Sound}
use Rattle.lst_rule.specs.declared.store.Store.{Store}
use Rattle.lst_rule.specs.declared.view.View.{View}
use Rattle.lst_rule.specs.Rule.{knows, hosts, Allowed}
use Rattle.lst_replies.specs.Runs.{Answered, AtEachCall, run_of, is_accepted}
use Rattle.lst_replies.specs.States.{unbegun}
use Rattle.lst_replies.specs.Legal.{AtEachWrite}
use Rattle.lst_replies.specs.Explained.{ConflictIsExplained, FullnessIsExplained}
use Rattle.lst_session.specs.declared.session.Session.{Session}
use Rattle.lst_session.specs.Parting.{known_by}
use Rattle.lst_work_laws.specs.Lines.{session_told}
use Rattle.lst_work_laws.specs.Lives.{Stays, Lives}
use Rattle.lst_work_laws.specs.Scripts.{AreFresh}
use Rattle.lst_work_laws.specs.Whole.{AreAll}
use Rattle.lst_work_laws.specs.Works.{Works}

-- what a session knows that has begun, drawn, latched and written nothing
pub record IsUntouched (k : Known) : Type 0 where
  pub state : session_told k ≡ unbegun
  pub drawn : k.placing.drawn ≡ []
  pub latched : k.latched ≡ []
  pub done : k.done ≡ []

-- every session of the state has come through the run, from where it had done nothing, and has no tail in hand. The lines of the run are of these
-- sessions
pub record HaveEnded (c : Core) (run : List Answered) : Type 0 where
  pub sound : Sound c
  pub first : ℕ → Known
  pub fresh : (s : ℕ) → s < c.limits.sessions → IsUntouched (first s)
  pub lives : (s : ℕ) → s < c.limits.sessions → Lives c.limits s run (first s) (c.known s)
  pub empty : (s : ℕ) → s < c.limits.sessions → (c.known s).hold.tail ≡ 0
  pub callers : AtEachCall (λ before session call reply. session < c.limits.sessions) run

-- as many tails as a range has drawn, as many writes were accepted, or more
abbrev pub TailsAreWritten : Type 0
TailsAreWritten = (c : Core) (run : List Answered) → HaveEnded c run
    → (range n : ℕ) → range < c.limits.ranges → n ≤ c.limits.tails → n ≤ c.words.counts range → n ≤ count_by is_accepted run

-- what a view knows that took these sessions together: of each it knows what the session knew, and maybe more facts and commits
pub record HasGathered (store : Store) (sessions : List Session) (v : View) : Type 0 where
  pub limits : v.limits ≡ store.layout.limits
  pub hosted : (s : ℕ) → s < v.limits.sessions → hosts v s ≡ true
  pub keeps : (s : ℕ) (d : Session) → s < length sessions → Stays s (known_by (slice_index_or sessions s d)) (knows v s)
  pub hold : (s : ℕ) (d : Session) → s < length sessions → (knows v s).hold ≡ (known_by (slice_index_or sessions s d)).hold

-- Where sessions that had done nothing have run a whole script and are gathered, the conflicts and the full counters that their replies tell
-- are explained, under the history of each state in which the view is possible
abbrev pub ScriptIsExplained : Type 0
ScriptIsExplained = (store : Store) (lines : List Line) (old new : List Session) (m n : View) (replies : List (Option ℕ × Reply)) (d : Session)
    (v : View) (words : List ℕ) (known : ℕ → Known) (merger : Known)
    → AreAll store old → AreAll store new → All (LineFits store.layout.limits.sessions store.layout.limits.ranges store.layout.limits.columns) lines
    → Works store lines old new m n replies → AreFresh old → HasGathered store new v → Allowed v words known merger
    → AtEachWrite (λ before session transaction write reply. ConflictIsExplained (history_of v.limits (shown v.limits words)) (run_of lines replies) session transaction write reply) (run_of lines replies)
    × AtEachWrite (λ before session transaction write reply. FullnessIsExplained v.limits (history_of v.limits (shown v.limits words)) (run_of lines replies) before session transaction write reply) (run_of lines replies)
