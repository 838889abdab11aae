-- A script on which all sessions of a new store have worked.
use Rattle.std.specs.Prelude.{◌≡◌, ℕ, ◌<◌, List, true}
use Rattle.lst_layout.specs.declared.layout.Layout.{Layout}
use Rattle.lst_model.specs.declared.lines.Line.{Line}
use Rattle.lst_rule.specs.declared.store.Store.{Store}
use Rattle.lst_rule.specs.declared.view.View.{View}
use Rattle.lst_rule.specs.Rule.{knows, crew as opening_view}
use Rattle.lst_replies.specs.declared.reports.Report.{Report}
use Rattle.lst_replies.specs.Runs.{run_of}
use Rattle.lst_legal_runs.specs.declared.levels.Level.{Level}
use Rattle.lst_legal_runs.specs.declared.levels.Level.TheVariants.{Snapshot, Serializable}
use Rattle.lst_session.specs.declared.crew.Crew.{Crew}
use Rattle.lst_session.specs.Crews.{IsCrewOf, store_told}
use Rattle.lst_work_laws.specs.Keeping.{IsLegalUnder}
use Rattle.lst_work_laws.specs.Works.{SessionWorks, MergerWorks}

-- the view knows each word, and each session has seen the whole history
pub record HaveSeenTheHistory (v : View) : Type 0 where
  pub whole : v.whole ≡ true
  pub seen : (s : ℕ) → s < v.limits.sessions → (knows v s).seen ≡ (store_told v).history

-- The sessions and the merger of this store have worked on the script, and are gathered in this crew, which knows each word. The report is legal
-- for the script, at this level of isolation, under the history that the store has, which each session has seen. Each session has come through the script, from what it knew
-- at the opening to what it knows in this crew, and so has the merger: the replies tell what is so, and the lines left of what each knew what they
-- tell.
pub record IsWorkedAt (level : Level) (layout : Layout) (lines : List Line) (report : Report) (store : Store) (crew : Crew) : Type 0 where
  pub opened : store.layout ≡ layout
  pub crew_of : IsCrewOf store crew
  pub whole : crew.seat.view.whole ≡ true
  pub seen : HaveSeenTheHistory crew.seat.view
  pub legal : IsLegalUnder level layout.limits lines report (store_told crew.seat.view).history
  pub sessions : (s : ℕ) → s < layout.limits.sessions → SessionWorks layout.limits (run_of lines report.replies) s (knows (opening_view layout.limits) s) (knows crew.seat.view s)
  pub merger : MergerWorks layout.limits (run_of lines report.replies) (opening_view layout.limits) crew.seat.view

-- under snapshot isolation
abbrev pub IsWorked : Layout → List Line → Report → Store → Crew → Type 0
IsWorked layout lines report store crew = IsWorkedAt Snapshot layout lines report store crew

-- at the serializable level
abbrev pub IsWorkedSerial : Layout → List Line → Report → Store → Crew → Type 0
IsWorkedSerial layout lines report store crew = IsWorkedAt Serializable layout lines report store crew
