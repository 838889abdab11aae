-- Scans as the machine of one thread answers them.
use Rattle.std.specs.Prelude.{◌≡◌, ℕ, ◌<◌, true}
use Rattle.lst_model.specs.declared.lines.Call.TheVariants.{Sum, Count, Scan, Find}
use Rattle.lst_model.specs.declared.replies.Reply.TheVariants as reply
use Rattle.lst_model.specs.Tables.{sum_of, count_of, scan_of, find_of}
use Rattle.lst_machine.specs.Calls.{is_indexed}
use Rattle.lst_rule.specs.declared.view.View.{View}
use Rattle.lst_rule.specs.Rule.{knows}
use Rattle.lst_rule.specs.Learned.{Possible}
use Rattle.lst_rule.specs.declared.store.Store.{Store}
use Rattle.lst_rule.specs.Seats.{Sitting}
use Rattle.lst_rule.specs.Watching.{Watched}
use Rattle.lst_session.specs.declared.crew.Crew.{Crew}
use Rattle.lst_session.specs.Crews.{IsCrewOf, TellsState, Answers}
use Rattle.lst_scan.specs.Scans.{table_seen}

-- what a scan by the session's open transaction answers is the machine's answer, which leaves its state
pub record AnswersScans (v w : View) (s : ℕ) : Type 0 where
  pub sum : (column : ℕ) → Answers v w s (Sum column) (reply.Sum (sum_of (table_seen (knows v s)) column))
  pub count : Answers v w s Count (reply.Count (count_of (table_seen (knows v s))))
  pub rows : Answers v w s Scan (reply.Rows (scan_of (table_seen (knows v s))))
  pub found : (column number : ℕ) → is_indexed v.limits column ≡ true → Answers v w s (Find column number) (reply.Keys (find_of (table_seen (knows v s)) column number))

-- so it is where a crew tells a state of the machine, and its session has only looked
abbrev pub CrewsAnswerScans : Type 0
CrewsAnswerScans = (store : Store) (crew : Crew) (seat : Sitting) (s : ℕ) → IsCrewOf store crew → TellsState crew.seat.view → Possible crew.seat.view → s < crew.seat.view.limits.sessions → (knows crew.seat.view s).is_open ≡ true
    → Watched crew.seat.view seat.view s → AnswersScans crew.seat.view seat.view s
