-- The text of a report, and which texts are one.
use Rattle.std.specs.Prelude.{◌≡◌, ℕ, ◌+◌, ◌<◌, ◌≤◌, ◌^◌, List, [], ◌∷◌, ◌++◌, Bool, false, Option, Some, None, length, take, map, All, flat_map, codes, decimal, ◌==◌, if◌then◌else◌}
use Rattle.std.specs.List.{slice_split}
use Rattle.lst_model.specs.Cells.{Cell}
use Rattle.lst_model.specs.declared.replies.Reply.{Reply}
use Rattle.lst_model.specs.declared.replies.Reply.TheVariants.{Begun, Done, Row, Absent, Committed, Ended, Aborted, Sum, Count, Rows, Keys, Refused, Merged, NothingNew, NoFrame, Silent}
use Rattle.lst_model.specs.declared.replies.Cause.{Cause}
use Rattle.lst_model.specs.declared.replies.Cause.TheVariants.{Future, Newer, Unfinished, Stale}
use Rattle.lst_replies.specs.declared.reports.Stamp.{Stamp}
use Rattle.lst_replies.specs.declared.reports.Report.{Report}
use Rattle.lst_replies.specs.Texts.{reply_word, reply_rest}

-- ---- the lines of a report

-- the session's number and a space stand before a reply to a call
abbrev pub session_text : Option ℕ → List ℕ
session_text None = []
session_text (Some session) = decimal session ++ 32 ∷ []

-- the line of a reply
abbrev pub reply_line : Option ℕ × Reply → List ℕ
reply_line told = session_text told.0 ++ (reply_word told.1 ++ reply_rest told.1)

-- the line with the number of commits
abbrev pub history_line : ℕ → List ℕ
history_line count = codes "history " ++ decimal count

-- the line of a commit: its time, its session, its transaction's number, and its begin
abbrev pub stamp_line : ℕ → Stamp → List ℕ
stamp_line time stamp = decimal time ++ 32 ∷ (decimal stamp.session ++ 32 ∷ (decimal stamp.number ++ 32 ∷ decimal stamp.begin))

-- the lines of commits, the first of which has this time
abbrev pub stamp_lines : ℕ → List Stamp → List (List ℕ)
stamp_lines time [] = []
stamp_lines time (stamp ∷ stamps) = stamp_line time stamp ∷ stamp_lines (time + 1) stamps

-- replies, the number of commits, and the commits
abbrev pub lines_of : List (Option ℕ × Reply) → List Stamp → List (List ℕ)
lines_of replies stamps = map reply_line replies ++ history_line (length stamps) ∷ stamp_lines 1 stamps

abbrev pub report_lines : Report → List (List ℕ)
report_lines report = lines_of report.replies report.history

-- the text of a reply, with its newline, which is 10
abbrev pub told_text : Option ℕ × Reply → List ℕ
told_text told = reply_line told ++ 10 ∷ []

-- the text of commits, the first of which has this time
abbrev pub stamps_text : ℕ → List Stamp → List ℕ
stamps_text time [] = []
stamps_text time (stamp ∷ stamps) = (stamp_line time stamp ++ 10 ∷ []) ++ stamps_text (time + 1) stamps

-- the text of a report: its lines, with a newline at the end of each
abbrev pub report_text : Report → List ℕ
report_text report = flat_map told_text report.replies ++ ((history_line (length report.history) ++ 10 ∷ []) ++ stamps_text 1 report.history)

-- ---- what a report can hold

abbrev pub CauseFits : Cause → Type 0
CauseFits (Future clock) = clock < 2 ^ 64
CauseFits (Newer time) = time < 2 ^ 64
CauseFits (Stale time) = time < 2 ^ 64
CauseFits (Unfinished session number) = (session < 2 ^ 32) × (number < 2 ^ 32)
CauseFits cause = Unit {0}

abbrev pub CellFits : Cell → Type 0
CellFits None = Unit {0}
CellFits (Some number) = number < 2 ^ 64

-- as many cells as the table has columns
pub record RowFits (columns : ℕ) (row : List Cell) : Type 0 where
  pub width : length row ≡ columns
  pub cells : All CellFits row

pub record EntryFits (columns : ℕ) (entry : ℕ × List Cell) : Type 0 where
  pub key : entry.0 < 2 ^ 64
  pub row : RowFits columns entry.1

-- a reply to a call of a session
abbrev pub CallReplyFits : ℕ → Reply → Type 0
CallReplyFits columns (Begun time) = time < 2 ^ 64
CallReplyFits columns Done = Unit {0}
CallReplyFits columns (Row row) = RowFits columns row
CallReplyFits columns Absent = Unit {0}
CallReplyFits columns (Committed time) = time < 2 ^ 64
CallReplyFits columns (Ended time) = time < 2 ^ 64
CallReplyFits columns Aborted = Unit {0}
CallReplyFits columns (Sum total) = total < 2 ^ 128
CallReplyFits columns (Count rows) = rows < 2 ^ 64
CallReplyFits columns (Rows list) = All (EntryFits columns) list
CallReplyFits columns (Keys list) = All (λ key. key < 2 ^ 64) list
CallReplyFits columns (Refused cause) = CauseFits cause
CallReplyFits columns (Merged tps) = ⊥
CallReplyFits columns (NothingNew tps) = ⊥
CallReplyFits columns (NoFrame session) = ⊥
CallReplyFits columns Silent = ⊥

-- a reply to a merge
abbrev pub MergeReplyFits : Reply → Type 0
MergeReplyFits (Merged tps) = tps < 2 ^ 32
MergeReplyFits (NothingNew tps) = tps < 2 ^ 32
MergeReplyFits (NoFrame session) = session < 2 ^ 32
MergeReplyFits reply = ⊥

-- replies to calls have a session, and replies to merges have none
abbrev pub ReplyFits : ℕ → Option ℕ × Reply → Type 0
ReplyFits columns (None, reply) = MergeReplyFits reply
ReplyFits columns (Some session, reply) = (session < 2 ^ 32) × CallReplyFits columns reply

pub record StampFits (stamp : Stamp) : Type 0 where
  pub session : stamp.session < 2 ^ 32
  pub number : stamp.number < 2 ^ 32
  pub begin : stamp.begin < 2 ^ 64

pub record ReportFits (columns : ℕ) (report : Report) : Type 0 where
  pub replies : All (ReplyFits columns) report.replies
  pub history : All StampFits report.history
  pub few : length report.history < 2 ^ 64

-- ---- reading

abbrev pub is_newline : ℕ → Bool
is_newline byte = byte == 10

-- the parts of a text between its newlines, but for an empty last one
abbrev pub without_empty_end : List (List ℕ) → List (List ℕ)
without_empty_end [] = []
without_empty_end (part ∷ []) = if length part == 0 then [] else part ∷ []
without_empty_end (part ∷ next ∷ parts) = part ∷ without_empty_end (next ∷ parts)

-- the last part is empty
abbrev pub ends_empty : List (List ℕ) → Bool
ends_empty [] = false
ends_empty (part ∷ []) = length part == 0
ends_empty (part ∷ next ∷ parts) = ends_empty (next ∷ parts)

-- the lines of a text; the last newline may be missing
abbrev pub text_lines : List ℕ → List (List ℕ)
text_lines text = without_empty_end (slice_split is_newline text)

-- a text is this report's, for a table with this many columns
pub record IsReportText (columns : ℕ) (text : List ℕ) (report : Report) : Type 0 where
  pub fits : ReportFits columns report
  pub lines : text_lines text ≡ report_lines report

-- some report's lines begin so
pub record CanBegin (columns : ℕ) (front : List (List ℕ)) : Type 0 where
  pub report : Report
  pub fits : ReportFits columns report
  pub rest : List (List ℕ)
  pub lines : report_lines report ≡ front ++ rest

-- The line of this number is the first that can't stand in its place: the lines before it begin a report, and no report begins with it
-- too. Where all lines begin a report and none is whole, it is the number after the last line.
pub record IsFirstFault (columns : ℕ) (text : List ℕ) (line : ℕ) : Type 0 where
  pub counted : 0 < line
  pub within : line ≤ length (text_lines text) + 1
  pub front : (before : ℕ) → line ≡ before + 1 → CanBegin columns (take before (text_lines text))
  pub fault : line ≤ length (text_lines text) → ¬ CanBegin columns (take line (text_lines text))
  pub whole : (report : Report) → ¬ IsReportText columns text report
