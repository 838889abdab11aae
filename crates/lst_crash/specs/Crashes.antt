-- The text of a script that is run through a journal and crashed, with what a second opening finds.
use Rattle.std.specs.Prelude.{ℕ, zero, suc, ◌+◌, ◌-◌, Bool, true, false, not, ◌&&◌, List, [], ◌∷◌, ◌++◌, Option, Some, None, cond, nat_lt, length, codes}
use Rattle.lst_layout.specs.declared.limits.Limits.{Limits}
use Rattle.lst_model.specs.declared.acts.Write.{Write}
use Rattle.lst_model.specs.declared.commits.Commit.{Commit}
use Rattle.lst_model.specs.declared.lines.Line.{Line}
use Rattle.lst_model.specs.declared.lines.Line.TheVariants.{Call}
use Rattle.lst_model.specs.declared.lines.Call.TheVariants.{Commit as CommitCall}
use Rattle.lst_model.specs.Lines.{LineFits}
use Rattle.lst_model.specs.Tables.{scan_of}
use Rattle.lst_model.specs.Histories.{table_at}
use Rattle.lst_machine.specs.State.{Opened, Store, State, opening}
use Rattle.lst_machine.specs.Writes.{own_writes}
use Rattle.lst_machine.specs.Machine.{reply, next}
use Rattle.lst_log.specs.Format.{record_of}
use Rattle.lst_replies.specs.Texts.{speaker_text, line_text}
use Rattle.lst_past.specs.Past.{number_line, rows_line}
use Rattle.lst_redo.specs.declared.journal.Kept.{Kept}
use Rattle.lst_redo.specs.declared.journal.Kept.TheVariants.{Reply, JournalFull, DiskFault}

-- how many bytes a disk has at most
abbrev pub most_bytes : ℕ
most_bytes = 262144

-- a line that a store with these limits takes
abbrev pub IsTaken : Limits → Line → Type 0
IsTaken limits line = LineFits limits.sessions limits.ranges limits.columns line

-- ---- the commit that a line makes

abbrev pub commit_made : Store → ℕ → Opened → List Write → Option Commit
commit_made store session transaction [] = None
commit_made store session transaction (write ∷ writes) = Some (record { session = session; number = store.begins session; begin = transaction.begin; writes = write ∷ writes })

abbrev pub commit_in : Limits → Store → ℕ → Option Opened → Option Commit
commit_in limits store session None = None
commit_in limits store session (Some transaction) = commit_made store session transaction (own_writes limits store session)

-- of an open transaction that has writes, or none
abbrev pub commit_by : Limits → Store → Line → Option Commit
commit_by limits store (Call session CommitCall) = commit_in limits store session (store.opened session)
commit_by limits store line = None

-- ---- a run

-- where a run stands: the machine's state, where the records end on the disk, and how many calls the disk will still make
pub record Run : Type 0 where
  pub state : State
  pub end : ℕ
  pub left : ℕ

abbrev pub record_size : Limits → Commit → ℕ
record_size limits c = length (record_of limits.columns c)

-- a commit of writes needs a place for its record and for the byte behind it, and four calls; every other line is the machine's
abbrev pub answer_of : Limits → ℕ → Run → Line → Option Commit → Kept
answer_of limits bytes run line None = Reply (reply limits run.state line)
answer_of limits bytes run line (Some c) =
    cond (nat_lt bytes (run.end + record_size limits c + 1)) JournalFull (cond (nat_lt run.left 4) DiskFault (Reply (reply limits run.state line)))

abbrev pub run_after : Limits → Run → Line → Option Commit → Kept → Run
run_after limits run line None (Reply answer) = record run { state = next limits run.state line }
run_after limits run line (Some c) (Reply answer) = record { state = next limits run.state line; end = run.end + record_size limits c; left = run.left - 4 }
run_after limits run line made kept = run

-- what the line is answered, and where the run stands then
abbrev pub answer : Limits → ℕ → Run → Line → Kept
answer limits bytes run line = answer_of limits bytes run line (commit_by limits run.state.store line)

abbrev pub later : Limits → ℕ → Run → Line → Run
later limits bytes run line = run_after limits run line (commit_by limits run.state.store line) (answer limits bytes run line)

-- ---- texts

abbrev pub speech : Line → List ℕ → List ℕ
speech line words = speaker_text line ++ words

abbrev pub kept_text : Line → Kept → List ℕ
kept_text line (Reply answer) = line_text line answer
kept_text line JournalFull = speech line (codes "full journal\n")
kept_text line DiskFault = speech line (codes "stopped\n")

-- how many commits there are, and the table that they make
abbrev pub recovered_text : List Commit → List ℕ
recovered_text commits = number_line (codes "recovered ") (length commits) ++ rows_line (scan_of (table_at commits (length commits)))

-- ---- whole runs

abbrev pub is_fault : Kept → Bool
is_fault DiskFault = true
is_fault kept = false

-- how a run ends: the text of its lines, the commits that were acknowledged, the one at which the disk failed, or none, and whether the byte that opens its
-- record's gate was written: the third of its four calls
pub record Ending : Type 0 where
  pub text : List ℕ
  pub acknowledged : List Commit
  pub under_way : Option Commit
  pub opened : Bool

abbrev pub ended : Run → List ℕ → Option Commit → Ending
ended run text made = record { text = text; acknowledged = run.state.store.history; under_way = made; opened = not (nat_lt run.left 3) }

-- behind the text so far: a run goes on up to the line at which the disk fails, or the last one
abbrev pub ending_from : Limits → ℕ → Run → List ℕ → List Line → Ending
ending_from limits bytes run text [] = ended run text None
ending_from limits bytes run text (line ∷ lines) =
    let kept : Kept = answer limits bytes run line in
    let longer : List ℕ = text ++ kept_text line kept in
    cond (is_fault kept) (ended run longer (commit_by limits run.state.store line)) (ending_from limits bytes (later limits bytes run line) longer lines)

-- where a run starts, once the opening has taken its call
abbrev pub start_of : ℕ → Run
start_of left = record { state = opening; end = 0; left = left }

-- by the number of the disk's calls, of which the opening takes one. Where it makes none, the opening fails
abbrev pub ending_of : Limits → ℕ → ℕ → List Line → Ending
ending_of limits bytes zero lines = record { text = codes "stopped\n"; acknowledged = []; under_way = None; opened = false }
ending_of limits bytes (suc left) lines = ending_from limits bytes (start_of left) [] lines

-- ---- what is recovered

-- these commits, and the one more where it counts
abbrev pub with_one : Bool → List Commit → Option Commit → List Commit
with_one false commits made = commits
with_one true commits None = commits
with_one true commits (Some c) = commits ++ c ∷ []

-- the commits that are recovered: those that were acknowledged, and the one at which the disk failed exactly where its gate was opened, which a torn crash keeps
abbrev pub recovered : Bool → Ending → List Commit
recovered torn ending = with_one (torn && ending.opened) ending.acknowledged ending.under_way

-- the text that is owed, where these commits are recovered
abbrev pub crash_text : Ending → List Commit → List ℕ
crash_text ending commits = ending.text ++ recovered_text commits

-- the second opening's limits have a tail for each write that a disk holds
abbrev pub limits_again : Limits → Limits
limits_again limits = record limits { tails = 16384 }
