-- The lines of a script with their scans: what each promises of the session that calls, or of the merger.
use Rattle.std.specs.Prelude.{◌≡◌, ℕ, true, false}
use Rattle.lst_model.specs.declared.lines.Call.{Call}
use Rattle.lst_model.specs.declared.lines.Call.TheVariants as call
use Rattle.lst_model.specs.declared.lines.Line.{Line}
use Rattle.lst_model.specs.declared.lines.Line.TheVariants as line
use Rattle.lst_model.specs.declared.replies.Reply.{Reply}
use Rattle.lst_model.specs.declared.replies.Reply.TheVariants.{Sum, Count, Rows, Keys, Refused, Silent}
use Rattle.lst_model.specs.declared.replies.Cause.TheVariants as cause
use Rattle.lst_model.specs.Tables.{sum_of, count_of, scan_of, find_of}
use Rattle.lst_machine.specs.Calls.{is_indexed}
use Rattle.lst_rule.specs.declared.view.View.{View}
use Rattle.lst_rule.specs.Rule.{knows}
use Rattle.lst_session.specs.Calls.{OnlyLooks, FindsNoneFull}
use Rattle.lst_session.specs.Crews.{TellsState, state_told}
use Rattle.lst_session.specs.Lines.{IsOpen, IsClosed, CallLeaves, MergeLeaves}
use Rattle.lst_scan.specs.Savings.{SavesSum}
use Rattle.lst_scan.specs.Scans.{table_seen}

-- a state of the machine that the view told is told still
abbrev pub KeepsState : View → View → Type 0
KeepsState v w = TellsState v → TellsState w × (state_told w ≡ state_told v)

-- ---- what is left of the session

-- its transaction is open, and it has only looked, and found no counter full
pub record HasScanned (v w : View) (s : ℕ) : Type 0 where
  pub opened : IsOpen v s
  pub looks : OnlyLooks v w s
  pub room : FindsNoneFull v w s

abbrev pub SumLeaves : View → View → ℕ → ℕ → Reply → Type 0
SumLeaves v w s column (Sum total) = HasScanned v w s × (total ≡ sum_of (table_seen (knows v s)) column)
SumLeaves v w s column (Refused cause.Idle) = IsClosed v s × (w ≡ v)
SumLeaves v w s column answer = ⊥

abbrev pub CountLeaves : View → View → ℕ → Reply → Type 0
CountLeaves v w s (Count rows) = HasScanned v w s × (rows ≡ count_of (table_seen (knows v s)))
CountLeaves v w s (Refused cause.Idle) = IsClosed v s × (w ≡ v)
CountLeaves v w s answer = ⊥

abbrev pub ScanLeaves : View → View → ℕ → Reply → Type 0
ScanLeaves v w s (Rows list) = HasScanned v w s × (list ≡ scan_of (table_seen (knows v s)))
ScanLeaves v w s (Refused cause.Idle) = IsClosed v s × (w ≡ v)
ScanLeaves v w s answer = ⊥

-- whether a transaction is open is asked first, and then whether the column has an index
abbrev pub FindLeaves : View → View → ℕ → ℕ → ℕ → Reply → Type 0
FindLeaves v w s column number (Keys list) = (is_indexed v.limits column ≡ true) × HasScanned v w s × (list ≡ find_of (table_seen (knows v s)) column number)
FindLeaves v w s column number (Refused cause.Idle) = IsClosed v s × (w ≡ v)
FindLeaves v w s column number (Refused cause.NotIndexed) = (is_indexed v.limits column ≡ false) × IsOpen v s × (w ≡ v)
FindLeaves v w s column number answer = ⊥

-- by the call: a scan, or one by key, a begin or an end
abbrev pub EachCallLeaves : View → View → ℕ → Call → Reply → Type 0
EachCallLeaves v w s (call.Sum column) answer = SumLeaves v w s column answer × SavesSum v w s column
EachCallLeaves v w s call.Count answer = CountLeaves v w s answer × SavesSum v w s 0
EachCallLeaves v w s call.Scan answer = ScanLeaves v w s answer
EachCallLeaves v w s (call.Find column number) answer = FindLeaves v w s column number answer
EachCallLeaves v w s call answer = CallLeaves v w s call answer

-- by the line
abbrev pub EachLineLeaves : View → View → Line → Reply → Type 0
EachLineLeaves v w line.Phase answer = (answer ≡ Silent) × (w ≡ v)
EachLineLeaves v w (line.Merge range column) answer = MergeLeaves v w range column answer
EachLineLeaves v w (line.Call s call) answer = EachCallLeaves v w s call answer

-- for want of memory: only a list and a find in an indexed column take any, once a transaction is found open, and then the session has only
-- looked; any other call leaves all as it was
abbrev pub CallLooks : View → View → ℕ → Call → Type 0
CallLooks v w s call.Scan = HasScanned v w s
CallLooks v w s (call.Find column number) = (is_indexed v.limits column ≡ true) × HasScanned v w s
CallLooks v w s (call.Sum column) = ⊥
CallLooks v w s call.Count = ⊥
CallLooks v w s call = w ≡ v

abbrev pub LineLooks : View → View → Line → Type 0
LineLooks v w line.Phase = w ≡ v
LineLooks v w (line.Merge range column) = w ≡ v
LineLooks v w (line.Call s call) = CallLooks v w s call
