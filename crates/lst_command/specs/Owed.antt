-- What a command owes, a task for its input: its output, its status, and what it leaves to its caller.
use Rattle.std.specs.Prelude.{◌≡◌, ◌⊎◌, ℕ, ◌*◌, ◌≤◌, ◌<◌, List, ◌++◌, length, Some, None, codes}
use Rattle.lst_model.specs.declared.lines.Line.{Line}
use Rattle.lst_layout.specs.declared.layout.Layout.{Layout}
use Rattle.lst_layout.specs.Limits.{IsValid}
use Rattle.lst_layout.specs.declared.limits.Limits.{Limits}
use Rattle.lst_crash.specs.Crashes.{Ending, ending_of, recovered, crash_text}
use Rattle.lst_csv.specs.declared.faults.TableFault.{TableFault}
use Rattle.lst_csv.specs.Importing.{import_of}
use Rattle.lst_csv.specs.Records.{records_of}
use Rattle.lst_csv.specs.Tables.{table_fault}
use Rattle.lst_csv.specs.Writing.{history_text}
use Rattle.lst_work_laws.specs.Worked.{IsWorkedAt}
use Rattle.lst_work.specs.declared.loading.Loaded.{Loaded}
use Rattle.lst_work.specs.Loaded.{IsLoaded}
use Rattle.lst_machine.specs.State.{opening}
use Rattle.lst_machine.specs.Machine.{replies, state_after}
use Rattle.lst_past.specs.Past.{number_line, past_text}
use Rattle.lst_options.specs.declared.crash.DiskOptions.{DiskOptions}
use Rattle.lst_options.specs.declared.load.LoadNumbers.{LoadNumbers}
use Rattle.lst_replies.specs.declared.reports.Report.{Report}
use Rattle.lst_legal.specs.Judged.{IsLegalAt}
use Rattle.lst_legal_runs.specs.declared.levels.Level.{Level}
use Rattle.lst_replies.specs.ReportTexts.{report_text}
use Rattle.lst_replies.specs.Texts.{script_text}
use Rattle.lst_report.specs.Claims.{IsClaim, IsFaultAt}
use Rattle.lst_report.specs.declared.claims.Claim.{Claim}
use Rattle.lst_rule.specs.declared.store.Store.{Store}
use Rattle.lst_script.specs.Canonical.{named_text}
use Rattle.lst_script.specs.Scripts.{IsScript, IsNamed, text_fault}
use Rattle.lst_script.specs.declared.scripts.Named.{Named}
use Rattle.lst_script.specs.declared.faults.FaultKind.{FaultKind}
use Rattle.lst_session.specs.declared.crew.Crew.{Crew}
use Rattle.lst_command.specs.declared.command.Command.{Command}
use Rattle.lst_command.specs.declared.command.Command.TheVariants.{Input, Load}
use Rattle.lst_command.specs.declared.command.Task.{Task}
use Rattle.lst_command.specs.declared.command.Task.TheVariants.{Run, Work, Check, Migrate, AsOf, Import, Dump, Crash}
use Rattle.lst_command.specs.declared.status.Status.{Status}
use Rattle.lst_command.specs.declared.status.Status.TheVariants.{Done, Illegal}
use Rattle.lst_command.specs.Runs.{Left, LeftBy}

-- how many bytes an input may have
abbrev pub most_bytes : ℕ
most_bytes = 16777216

-- ---- what a run owes

-- what a whole script is answered under these limits
abbrev pub run_text : Limits → List Line → List ℕ
run_text limits script = script_text script (replies limits opening script)

-- the input is this script, the text is what it is answered, and this store and crew are left, which tell the machine's state after its last line
pub record OwesAnswers (limits : Limits) (input text : List ℕ) (left : Left) : Type 0 where
  pub script : List Line
  pub is_script : IsScript limits input script
  pub is_text : text ≡ run_text limits script
  pub both : Store × Crew
  pub is_left : left ≡ Some both
  pub by : LeftBy limits script both

-- ---- what sessions at work owe

-- the input is this script, the text is that of this report, and this store and crew are left: the sessions of the store have worked on the script at
-- the level, and under the history that the crew tells the report is legal for it at the level
pub record OwesReport (level : Level) (limits : Limits) (input text : List ℕ) (left : Left) : Type 0 where
  pub script : List Line
  pub is_script : IsScript limits input script
  pub report : Report
  pub is_text : text ≡ report_text report
  pub both : Store × Crew
  pub is_left : left ≡ Some both
  pub layout : Layout
  pub limited : layout.limits ≡ limits
  pub by : IsWorkedAt level layout script report both.0 both.1

-- ---- what a check owes

-- the report is legal for the script at the level, and the verdict says so, or it isn't, and the verdict says that
abbrev pub IsVerdict : Level → Limits → Claim → List ℕ → Status → Type 0
IsVerdict level limits claim text status = (IsLegalAt level limits claim.script claim.report × (text ≡ codes "legal\n") × (status ≡ Done))
    ⊎ ((¬ IsLegalAt level limits claim.script claim.report) × (text ≡ codes "illegal\n") × (status ≡ Illegal))

-- the input is a script with a report, and this is the verdict on it; the table has columns, as under all limits that words name
pub record OwesVerdict (level : Level) (limits : Limits) (input text : List ℕ) (status : Status) : Type 0 where
  pub wide : 0 < limits.columns
  pub claim : Claim
  pub is_claim : IsClaim limits input claim
  pub verdict : IsVerdict level limits claim text status

-- ---- what a migration owes

-- the input is this script with these names, and the text is theirs in version 2
pub record OwesMigration (limits : Limits) (input text : List ℕ) : Type 0 where
  pub named : Named
  pub is_named : IsNamed limits input named
  pub is_text : text ≡ named_text named.names named.script

-- a script of the text that is owed has the replies of a script of the input
abbrev pub MigrationIsTheSame : Limits → List ℕ → List ℕ → Type 0
MigrationIsTheSame limits input text = IsValid limits → OwesMigration limits input text → (script other : List Line) → IsScript limits input script → IsScript limits text other → run_text limits other ≡ run_text limits script

-- ---- what a look at a past table owes

-- the bytes of the block of the history after the last line, and its table as of a time
abbrev pub as_of_text : Limits → List Line → ℕ → List ℕ
as_of_text limits script time = past_text limits.columns (state_after limits opening script).store.history time

-- the input is this script, the text tells the table as of the time, and this store and crew are left, as after a run
pub record OwesPast (time : ℕ) (limits : Limits) (input text : List ℕ) (left : Left) : Type 0 where
  pub script : List Line
  pub is_script : IsScript limits input script
  pub is_text : text ≡ as_of_text limits script time
  pub both : Store × Crew
  pub is_left : left ≡ Some both
  pub by : LeftBy limits script both

-- ---- what an import owes

-- no record of the input is faulty, and the text is the script that stands for them
pub record OwesTable (limits : Limits) (input text : List ℕ) : Type 0 where
  pub faultless : table_fault limits.columns (records_of input) ≡ None
  pub is_text : text ≡ import_of (records_of input)

-- ---- what a dump owes

-- the table that all commits make after the last line, under the names of its columns: a transaction that is still open isn't in it
abbrev pub dump_of : Limits → List (List ℕ) → List Line → List ℕ
dump_of limits names script = history_text names (state_after limits opening script).store.history

-- the input is this script with these names, the text is the table after its last line, and this store and crew are left, as after a run
pub record OwesDump (limits : Limits) (input text : List ℕ) (left : Left) : Type 0 where
  pub named : Named
  pub is_named : IsNamed limits input named
  pub is_text : text ≡ dump_of limits named.names named.script
  pub both : Store × Crew
  pub is_left : left ≡ Some both
  pub by : LeftBy limits named.script both

-- ---- what a crash owes

-- the text of a script that is run through a journal on such a disk and crashed, with what is recovered
abbrev pub crashed_text : DiskOptions → Limits → List Line → List ℕ
crashed_text disk limits script =
    let ending : Ending = ending_of limits disk.bytes disk.stop script in crash_text ending (recovered disk.torn ending)

-- the input is this script, and the text tells how it was run and what was recovered
pub record OwesCrash (disk : DiskOptions) (limits : Limits) (input text : List ℕ) : Type 0 where
  pub script : List Line
  pub is_script : IsScript limits input script
  pub is_text : text ≡ crashed_text disk limits script

-- ---- what a load owes

-- how many rows there are, and what they add up to
abbrev pub load_text : ℕ → ℕ → List ℕ
load_text rows total = number_line (codes "rows ") rows ++ number_line (codes "total ") total

-- the text tells as many rows as there are keys, and 1,000 for each, and this store and crew are left: the sessions of the store have worked on the
-- script that the seed generates, and the table that its commits make has so many rows, with that total
pub record OwesLoad (numbers : LoadNumbers) (text : List ℕ) (left : Left) : Type 0 where
  pub is_text : text ≡ load_text numbers.keys (1000 * numbers.keys)
  pub loaded : Loaded
  pub both : Store × Crew
  pub is_left : left ≡ Some both
  pub by : IsLoaded numbers.seed numbers.keys numbers.sessions loaded both.0 both.1

-- ---- what a task owes

-- The input is in order for this task, which comes to this text and, where the text is written, to this status. Where `old` was left before, `new` is
-- left now: what the task made, and by a check, a migration, an import or a crash what there was.
abbrev pub OwesFor : Task → Limits → List ℕ → List ℕ → Status → Left → Left → Type 0
OwesFor Run limits input text status old new = OwesAnswers limits input text new × (status ≡ Done)
OwesFor (Work level) limits input text status old new = OwesReport level limits input text new × (status ≡ Done)
OwesFor (Check level) limits input text status old new = OwesVerdict level limits input text status × (new ≡ old)
OwesFor Migrate limits input text status old new = OwesMigration limits input text × (status ≡ Done) × (new ≡ old)
OwesFor (AsOf time) limits input text status old new = OwesPast time limits input text new × (status ≡ Done)
OwesFor Import limits input text status old new = OwesTable limits input text × (status ≡ Done) × (new ≡ old)
OwesFor Dump limits input text status old new = OwesDump limits input text new × (status ≡ Done)
OwesFor (Crash disk) limits input text status old new = OwesCrash disk limits input text × (status ≡ Done) × (new ≡ old)

-- the input's first faulty line for this task; a table has no lines
abbrev pub IsFaultFor : Task → Limits → List ℕ → ℕ → FaultKind → Type 0
IsFaultFor Run limits input line kind = text_fault limits input ≡ Some (line, kind)
IsFaultFor (Work level) limits input line kind = text_fault limits input ≡ Some (line, kind)
IsFaultFor (Check level) limits input line kind = IsFaultAt limits input line kind
IsFaultFor Migrate limits input line kind = text_fault limits input ≡ Some (line, kind)
IsFaultFor (AsOf time) limits input line kind = text_fault limits input ≡ Some (line, kind)
IsFaultFor Import limits input line kind = ⊥
IsFaultFor Dump limits input line kind = text_fault limits input ≡ Some (line, kind)
IsFaultFor (Crash disk) limits input line kind = text_fault limits input ≡ Some (line, kind)

-- the input's first faulty record, where the task takes a table
abbrev pub IsTableFaultFor : Task → Limits → List ℕ → ℕ → TableFault → Type 0
IsTableFaultFor Import limits input place kind = table_fault limits.columns (records_of input) ≡ Some (place, kind)
IsTableFaultFor task limits input place kind = ⊥

-- a load has no input
abbrev pub IsFault : Command → List ℕ → ℕ → FaultKind → Type 0
IsFault (Input task limits) input line kind = IsFaultFor task limits input line kind
IsFault (Load numbers) input line kind = ⊥

abbrev pub IsTableFault : Command → List ℕ → ℕ → TableFault → Type 0
IsTableFault (Input task limits) input place kind = IsTableFaultFor task limits input place kind
IsTableFault (Load numbers) input place kind = ⊥

-- ---- when an input is in order

-- the input is a script
abbrev pub IsAnyScript : Limits → List ℕ → Type 0
IsAnyScript limits input = (script : List Line) × IsScript limits input script

-- the input is in order for this task, and this status is due to it where the output is written: the text of sessions at work may be one of many
abbrev pub IsOrderlyFor : Task → Limits → List ℕ → Status → Type 0
IsOrderlyFor Run limits input status = IsAnyScript limits input × (status ≡ Done)
IsOrderlyFor (Work level) limits input status = IsAnyScript limits input × (status ≡ Done)
IsOrderlyFor (Check level) limits input status = (text : List ℕ) × OwesVerdict level limits input text status
IsOrderlyFor Migrate limits input status = IsAnyScript limits input × (status ≡ Done)
IsOrderlyFor (AsOf time) limits input status = IsAnyScript limits input × (status ≡ Done)
IsOrderlyFor Import limits input status = (table_fault limits.columns (records_of input) ≡ None) × (status ≡ Done)
IsOrderlyFor Dump limits input status = IsAnyScript limits input × (status ≡ Done)
IsOrderlyFor (Crash disk) limits input status = IsAnyScript limits input × (status ≡ Done)

-- the input isn't too long, is in order for this task, and this status is due to it
pub record IsInOrderFor (task : Task) (limits : Limits) (input : List ℕ) (status : Status) : Type 0 where
  pub few : length input ≤ most_bytes
  pub orderly : IsOrderlyFor task limits input status

-- the command is in order with what its source tells, and this status is due to it: a load is, whatever that is, since it reads nothing
abbrev pub IsInOrder : Command → List ℕ → Status → Type 0
IsInOrder (Input task limits) input status = IsInOrderFor task limits input status
IsInOrder (Load numbers) input status = status ≡ Done
