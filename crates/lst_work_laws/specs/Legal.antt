-- Sessions of a new store that have run a whole script and are gathered: the report of it is legal.
use Rattle.std.specs.Prelude.{◌≡◌, ℕ, ◌<◌, List, ◌++◌, map, true, length, slice_index_or}
use Rattle.std.specs.List.{All}
use Rattle.lst_model.specs.declared.lines.Line.{Line}
use Rattle.lst_model.specs.Histories.{Extends}
use Rattle.lst_model.specs.Lines.{LineFits}
use Rattle.lst_core_state.specs.declared.facts.Find.{Find}
use Rattle.lst_core_state.specs.declared.known.Known.{Known}
use Rattle.lst_core_state.specs.State.{commits_of, mine}
use Rattle.lst_pages.specs.Sound.{IsPage}
use Rattle.lst_rule.specs.declared.store.Store.{Store}
use Rattle.lst_rule.specs.declared.view.View.{View}
use Rattle.lst_rule.specs.Rule.{knows}
use Rattle.lst_rule.specs.Learned.{Possible}
use Rattle.lst_rule.specs.PageSteps.{stock_of}
use Rattle.lst_rule.specs.Surveys.{HostsAll}
use Rattle.lst_rule.specs.Copies.{Includes}
use Rattle.lst_pages.specs.Runs.{tps_known}
use Rattle.lst_replies.specs.declared.reports.Report.{Report}
use Rattle.lst_replies.specs.Runs.{run_of}
use Rattle.lst_replies.specs.Legal.{stamp_of}
use Rattle.lst_legal_runs.specs.declared.levels.Level.{Level}
use Rattle.lst_session.specs.declared.session.Session.{Session}
use Rattle.lst_session.specs.Calls.{SameWork, SameLists}
use Rattle.lst_session.specs.Crews.{store_told}
use Rattle.lst_session.specs.Parting.{known_by}
use Rattle.lst_work_laws.specs.Keeping.{EachEnds, IsLegalUnder}
use Rattle.lst_work_laws.specs.Scripts.{AreFresh}
use Rattle.lst_work_laws.specs.Whole.{AreAll}
use Rattle.lst_work_laws.specs.Works.{Works}

-- All sessions of a store, in order, and its merger, which has the view m, have done nothing: no session has set a pin, no page was swapped, and
-- none has a tail.
pub record HaveDoneNothing (store : Store) (sessions : List Session) (m : View) : Type 0 where
  pub all : AreAll store sessions
  pub fresh : AreFresh sessions
  pub unpinned : (s : ℕ) (d : Session) → s < length sessions → (known_by (slice_index_or sessions s d)).pages.pins ≡ 0
  pub swaps : (stock_of m).epoch ≡ 0
  pub tps : (range column : ℕ) → IsPage store.layout.limits range column → tps_known (stock_of m) range column ≡ 0

-- what the session s knew as u it knows as k: it may have seen more, learnt facts and found more; its work, its lists, its pins, and what it has
-- in hand are the same
pub record HasOnlyLooked (s : ℕ) (u k : Known) : Type 0 where
  pub same : SameWork s u k
  pub lists : SameLists u k
  pub pins : k.pages.pins ≡ u.pages.pins
  pub hold : k.hold ≡ u.hold
  pub seen : Extends k.seen u.seen
  pub facts : Includes k.facts u.facts
  pub finds : (more : List Find) × (k.finds ≡ u.finds ++ more)

-- All sessions of a store, and its merger, which had the view n, are at one seat, with the view w. It knows each word. Each session has only looked
-- since. The history that the words tell extends what each session had seen, and has of its commits those alone. The merger knows what it knew.
pub record AreTogether (store : Store) (sessions : List Session) (n w : View) : Type 0 where
  pub limits : w.limits ≡ store.layout.limits
  pub hosted : HostsAll w
  pub whole : w.whole ≡ true
  pub looked : (s : ℕ) (d : Session) → s < length sessions → HasOnlyLooked s (known_by (slice_index_or sessions s d)) (knows w s)
  pub seen : (s : ℕ) (d : Session) → s < length sessions → Extends (store_told w).history (known_by (slice_index_or sessions s d)).seen
  pub own : (s : ℕ) (d : Session) → s < length sessions → commits_of s (store_told w).history ≡ mine s (known_by (slice_index_or sessions s d))
  pub merger : knows w w.limits.sessions ≡ knows n n.limits.sessions

-- Where sessions that had done nothing have run a whole script and are gathered, a report of their replies, and of the commits that the store has,
-- is legal under the history that the store has, at the level at which the lines of each session end
abbrev pub WorkedScriptIsLegal : Type 0
WorkedScriptIsLegal = (level : Level) (store : Store) (lines : List Line) (old new : List Session) (m n w : View) (report : Report)
    → HaveDoneNothing store old m → AreAll store new → All (LineFits store.layout.limits.sessions store.layout.limits.ranges store.layout.limits.columns) lines
    → Works store lines old new m n report.replies → EachEnds level (run_of lines report.replies) old new → AreTogether store new n w → Possible w → report.history ≡ map stamp_of (store_told w).history
    → IsLegalUnder level store.layout.limits lines report (store_told w).history
