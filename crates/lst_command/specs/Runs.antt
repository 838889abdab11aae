-- A script that is run line by line, and what it leaves.
use Rattle.std.specs.Prelude.{◌≡◌, ℕ, List, ◌++◌, Option}
use Rattle.lst_layout.specs.declared.limits.Limits.{Limits}
use Rattle.lst_model.specs.declared.lines.Line.{Line}
use Rattle.lst_model.specs.Lines.{LineFits}
use Rattle.lst_model.specs.Soundness.{IsSound}
use Rattle.lst_machine.specs.State.{State, opening}
use Rattle.lst_machine.specs.Machine.{replies, state_after}
use Rattle.lst_replies.specs.Texts.{script_text}
use Rattle.lst_rule.specs.declared.view.View.{View}
use Rattle.lst_rule.specs.declared.store.Store.{Store}
use Rattle.lst_session.specs.declared.crew.Crew.{Crew}
use Rattle.lst_session.specs.Crews.{IsCrewOf, TellsState, state_told}

-- a line that a store with these limits takes
abbrev pub IsTaken : Limits → Line → Type 0
IsTaken limits line = LineFits limits.sessions limits.ranges limits.columns line

-- the view tells a state from which the answers to the rest make the whole text, and in the end this state
pub record HasRun (limits : Limits) (v : View) (text : List ℕ) (rest : List Line) (whole : List ℕ) (last : State) : Type 0 where
  pub written : text ++ script_text rest (replies limits (state_told v) rest) ≡ whole
  pub ends : state_after limits (state_told v) rest ≡ last

-- what a caller has of a call: a store and the crew that hosts all of it, if it has any
abbrev pub Left : Type 0
Left = Option (Store × Crew)

-- a store with these limits and its crew, which tells the machine's state after the last line of the script
pub record LeftBy (limits : Limits) (script : List Line) (left : Store × Crew) : Type 0 where
  pub opened : left.1.seat.view.limits ≡ limits
  pub crew_of : IsCrewOf left.0 left.1
  pub tells : TellsState left.1.seat.view
  pub last : state_told left.1.seat.view ≡ state_after limits opening script

-- the history that a crew tells after a run is sound
abbrev pub RunsAreSound : Type 0
RunsAreSound = (limits : Limits) (script : List Line) (left : Store × Crew) → LeftBy limits script left → IsSound (state_told left.1.seat.view).store.history
