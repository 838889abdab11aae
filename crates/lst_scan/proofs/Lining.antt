-- What a crew answers to a scan as a line of a script, and what it leaves.
use Rattle.std.proofs.Common.{◌≡◌, ℕ, ◌<◌, List, true, sym, subst}
use Rattle.lst_model.specs.Cells.{Cell}
use Rattle.lst_model.specs.declared.lines.Call.{Call}
use Rattle.lst_model.specs.declared.lines.Call.TheVariants as call
use Rattle.lst_model.specs.declared.replies.Reply.{Reply}
use Rattle.lst_model.specs.declared.replies.Reply.TheVariants as reply
use Rattle.lst_model.specs.Tables.{Rows, sum_of, count_of, scan_of, find_of}
use Rattle.lst_machine.specs.Calls.{is_indexed}
use Rattle.lst_rule.specs.Rule.{knows}
use Rattle.lst_rule.specs.Learned.{Possible}
use Rattle.lst_rule.specs.declared.store.Store.{Store}
use Rattle.lst_rule.specs.Seats.{Sitting}
use Rattle.lst_rule.specs.Stores.{IsSeatOf}
use Rattle.lst_rule.specs.Watching.{Watched}
use Rattle.lst_session.specs.declared.crew.Crew.{Crew}
use Rattle.lst_session.specs.Crews.{IsCrewOf, TellsState, Answers}
use Rattle.lst_session.specs.Lending.{with_crew_seat}
use Rattle.lst_scan.specs.Scans.{table_seen}
use Rattle.lst_scan.specs.Replies.{AnswersScans}
use Rattle.lst_scan.specs.Lines.{KeepsState, HasScanned}
use Rattle.lst_scan.proofs.Leaving.{readers_only_look, crews_stay}
use Rattle.lst_scan.proofs.Replying.{crews_answer_scans}

-- ---- where the session has only looked

module _ (store : Store) (crew : Crew) (seat : Sitting) (s : ℕ) (is : IsCrewOf store crew) (of : IsSeatOf store seat) (low : s < crew.seat.view.limits.sessions) (opened : (knows crew.seat.view s).is_open ≡ true) (watched : Watched crew.seat.view seat.view s) where
  pub crew_still : IsCrewOf store (with_crew_seat crew seat)
  crew_still = (crews_stay store crew seat s is of low watched).0

  pub state_still : KeepsState crew.seat.view seat.view
  state_still = (crews_stay store crew seat s is of low watched).1

  pub has_scanned : HasScanned crew.seat.view seat.view s
  has_scanned = let both = readers_only_look crew.seat.view seat.view s low watched in record { opened = opened; looks = both.0; room = both.1 }

  abbrev table : Rows
  table = table_seen (knows crew.seat.view s)

  -- where the crew tells a state of the machine, and this is the answer
  module _ (p : Possible crew.seat.view) (tells : TellsState crew.seat.view) where
    answered : (c : Call) (answer : Reply) → Answers crew.seat.view seat.view s c answer → TellsState seat.view × Answers crew.seat.view seat.view s c answer
    answered c answer a = ((state_still tells).0, a)

    answers : AnswersScans crew.seat.view seat.view s
    answers = crews_answer_scans store crew seat s is tells p low opened watched

    pub sum_told : (column total : ℕ) → total ≡ sum_of table column → TellsState seat.view × Answers crew.seat.view seat.view s (call.Sum column) (reply.Sum total)
    sum_told column total e = answered (call.Sum column) (reply.Sum total) (subst (λ (n : ℕ). Answers crew.seat.view seat.view s (call.Sum column) (reply.Sum n)) (sym e) (answers.sum column))

    pub count_told : (rows : ℕ) → rows ≡ count_of table → TellsState seat.view × Answers crew.seat.view seat.view s call.Count (reply.Count rows)
    count_told rows e = answered call.Count (reply.Count rows) (subst (λ (n : ℕ). Answers crew.seat.view seat.view s call.Count (reply.Count n)) (sym e) answers.count)

    pub scan_told : (list : List (ℕ × List Cell)) → list ≡ scan_of table → TellsState seat.view × Answers crew.seat.view seat.view s call.Scan (reply.Rows list)
    scan_told list e = answered call.Scan (reply.Rows list) (subst (λ (rows : List (ℕ × List Cell)). Answers crew.seat.view seat.view s call.Scan (reply.Rows rows)) (sym e) answers.rows)

    pub find_told : (column number : ℕ) (list : List ℕ) → is_indexed crew.seat.view.limits column ≡ true → list ≡ find_of table column number → TellsState seat.view × Answers crew.seat.view seat.view s (call.Find column number) (reply.Keys list)
    find_told column number list indexed e = answered (call.Find column number) (reply.Keys list) (subst (λ (keys : List ℕ). Answers crew.seat.view seat.view s (call.Find column number) (reply.Keys keys)) (sym e) (answers.found column number indexed))
