-- What each status says: of the words, of what was read, of what was written, and of what is left to the caller.
use Rattle.std.specs.Prelude.{◌≡◌, ◌⊎◌, ℕ, ◌≤◌, ◌<◌, List, [], Option, Some, length, take}
use Rattle.std.specs.Io.KnownBytes.{Appends}
use Rattle.lst_model.specs.Faults.{Rose}
use Rattle.lst_io.specs.Inputs.{IsWholeInput, ReadsWithin, ReadsBeyond}
use Rattle.lst_script.specs.declared.faults.FaultKind.{FaultKind}
use Rattle.lst_csv.specs.declared.faults.TableFault.{TableFault}
use Rattle.lst_layout.specs.declared.limits.Limits.{Limits}
use Rattle.lst_options.specs.declared.load.LoadNumbers.{LoadNumbers}
use Rattle.lst_command.specs.declared.command.Command.{Command}
use Rattle.lst_command.specs.declared.command.Command.TheVariants.{Input, Load}
use Rattle.lst_command.specs.declared.command.Task.{Task}
use Rattle.lst_command.specs.declared.status.Status.{Status}
use Rattle.lst_command.specs.declared.status.Status.TheVariants.{Done, Illegal, Usage, BadScript, TooLong, ReadFault, WriteFault, OutOfMemory, BadTable}
use Rattle.lst_command.specs.Commands.{Names, NamesNone}
use Rattle.lst_command.specs.Owed.{OwesFor, OwesLoad, IsFault, IsFaultFor, IsTableFault, IsTableFaultFor, IsInOrder, most_bytes}
use Rattle.lst_command.specs.Runs.{Left}
use Rattle.lst_command.specs.Statuses.{error_line}

-- ---- an end of the program, before a call and after it

-- at one moment: the bytes that a source has left, or that a sink has taken, where it tells them, and how often it has failed
pub record End : Type 0 where
  pub bytes : Option (List ℕ)
  pub faults : ℕ

pub record Change : Type 0 where
  pub before : End
  pub after : End

abbrev pub change : Option (List ℕ) → ℕ → Option (List ℕ) → ℕ → Change
change bytes faults new_bytes new_faults = record {
  before = record { bytes = bytes; faults = faults };
  after = record { bytes = new_bytes; faults = new_faults };
}

-- the end failed in the call, or its count stands at the last value
abbrev pub HasFailed : Change → Type 0
HasFailed end = Rose end.before.faults end.after.faults

-- nothing was read or written, and nothing failed
abbrev pub IsUntouched : Change → Type 0
IsUntouched end = end.after ≡ end.before

-- ---- what was read

-- this is the whole input
abbrev pub ReadsInput : Change → List ℕ → Type 0
ReadsInput source input = IsWholeInput most_bytes source.before.bytes source.after.bytes input

-- the whole input, and this is its first faulty line
pub record ReadsFault (task : Task) (limits : Limits) (source : Change) (line : ℕ) (kind : FaultKind) : Type 0 where
  pub input : List ℕ
  pub whole : ReadsInput source input
  pub is_first : IsFaultFor task limits input line kind

-- the whole input, and this is its first faulty record
pub record ReadsTableFault (task : Task) (limits : Limits) (source : Change) (place : ℕ) (kind : TableFault) : Type 0 where
  pub input : List ℕ
  pub whole : ReadsInput source input
  pub is_first : IsTableFaultFor task limits input place kind

-- no more bytes than an input may have, before the source failed
pub record FailsToRead (source : Change) : Type 0 where
  pub part : ReadsWithin most_bytes source.before.bytes source.after.bytes
  pub failed : HasFailed source

-- ---- what was made

-- the whole input was read, which is in order, and this is what the task owes for it: this text and status, and what is left
pub record MakesOfInput (task : Task) (limits : Limits) (source : Change) (text : List ℕ) (status : Status) (old new : Left) : Type 0 where
  pub input : List ℕ
  pub whole : ReadsInput source input
  pub owed : OwesFor task limits input text status old new

-- nothing was read, and this is what the load owes
pub record MakesOfLoad (numbers : LoadNumbers) (source : Change) (text : List ℕ) (status : Status) (new : Left) : Type 0 where
  pub unread : IsUntouched source
  pub owed : OwesLoad numbers text new
  pub ended : status ≡ Done

abbrev pub Makes : Command → Change → List ℕ → Status → Left → Left → Type 0
Makes (Input task limits) source text status old new = MakesOfInput task limits source text status old new
Makes (Load numbers) source text status old new = MakesOfLoad numbers source text status new

-- ---- what was written

-- all that the command makes
pub record Writes (command : Command) (source sink : Change) (status : Status) (old new : Left) : Type 0 where
  pub text : List ℕ
  pub made : Makes command source text status old new
  pub written : Appends sink.before.bytes sink.after.bytes text

-- a front of it, before the sink failed
pub record WritesInPart (command : Command) (source sink : Change) (old new : Left) : Type 0 where
  pub text : List ℕ
  pub status : Status
  pub made : Makes command source text status old new
  pub count : ℕ
  pub written : Appends sink.before.bytes sink.after.bytes (take count text)
  pub failed : HasFailed sink

-- nothing, and nothing else is left than before
pub record WritesNothing (sink : Change) (old new : Left) : Type 0 where
  pub unwritten : IsUntouched sink
  pub same : new ≡ old

-- ---- the statuses

-- what a status says of the input of a task where no output is owed
abbrev pub RefusesInput : Task → Limits → Status → Change → Type 0
RefusesInput task limits (BadScript line kind) source = ReadsFault task limits source line kind
RefusesInput task limits (BadTable place kind) source = ReadsTableFault task limits source place kind
RefusesInput task limits TooLong source = ReadsBeyond most_bytes source.before.bytes source.after.bytes
RefusesInput task limits ReadFault source = FailsToRead source
RefusesInput task limits OutOfMemory source = ReadsWithin most_bytes source.before.bytes source.after.bytes
RefusesInput task limits status source = ⊥

-- what it says of a load: memory alone may be wanting, and nothing was read
abbrev pub RefusesLoad : Status → Change → Type 0
RefusesLoad OutOfMemory source = IsUntouched source
RefusesLoad status source = ⊥

abbrev pub Refuses : Command → Status → Change → Type 0
Refuses (Input task limits) status source = RefusesInput task limits status source
Refuses (Load numbers) status source = RefusesLoad status source

-- What a status says of the command that the words name: its output was written, or in part, or nothing was. What is left to the caller was made of
-- the very input of which the output was.
abbrev pub SaysOf : Command → Status → Change → Change → Left → Left → Type 0
SaysOf command Done source sink old new = Writes command source sink Done old new
SaysOf command Illegal source sink old new = Writes command source sink Illegal old new
SaysOf command WriteFault source sink old new = WritesInPart command source sink old new
SaysOf command status source sink old new = Refuses command status source × WritesNothing sink old new

-- the words name a command, of which the status says this
abbrev pub SaysOfNamed : Status → List (List ℕ) → Change → Change → Left → Left → Type 0
SaysOfNamed status words source sink old new = (command : Command) × Names words command × SaysOf command status source sink old new

-- what a status says. Usage: that the words are no command line, and that nothing was read or written. OutOfMemory: that memory was wanting for the
-- words, before anything was read, or later. Any other: that the words are a command line, and what was read, written and left
abbrev pub Says : Status → List (List ℕ) → Change → Change → Left → Left → Type 0
Says Usage words source sink old new = NamesNone words × IsUntouched source × WritesNothing sink old new
Says OutOfMemory words source sink old new = (IsUntouched source × WritesNothing sink old new) ⊎ SaysOfNamed OutOfMemory words source sink old new
Says status words source sink old new = SaysOfNamed status words source sink old new

-- Usage comes only where the words are no command line, and there it comes, or memory was wanting for the words
pub record IsUsage (status : Status) (words : List (List ℕ)) : Type 0 where
  pub only : status ≡ Usage → NamesNone words
  pub due : NamesNone words → (status ≡ Usage) ⊎ (status ≡ OutOfMemory)

-- ---- what is due

-- what a status says of the input that the source tells: the status is due to it, unless an end failed or memory was wanting. To a load Done is due, whatever
-- the input
abbrev pub IsDue : Status → List (List ℕ) → List ℕ → Type 0
IsDue Done words input = (command : Command) × Names words command × IsInOrder command input Done
IsDue Illegal words input = (command : Command) × Names words command × IsInOrder command input Illegal
IsDue WriteFault words input = (command : Command) × Names words command × (status : Status) × IsInOrder command input status
IsDue (BadScript line kind) words input = (command : Command) × Names words command × (length input ≤ most_bytes) × IsFault command input line kind
IsDue (BadTable place kind) words input = (command : Command) × Names words command × (length input ≤ most_bytes) × IsTableFault command input place kind
IsDue TooLong words input = most_bytes < length input
IsDue status words input = Unit {0}

-- where words and input are in order and neither end fails, the status is the one that is due, or memory was wanting
abbrev pub IsComplete : Status → List (List ℕ) → Change → Change → Type 0
IsComplete status words source sink = (command : Command) (input : List ℕ) (due : Status) → Names words command → source.before.bytes ≡ Some input
    → IsInOrder command input due → ¬ HasFailed source → ¬ HasFailed sink → (status ≡ due) ⊎ (status ≡ OutOfMemory)

-- ---- the sink of errors

-- it took the line of the status, whole unless it failed; where there is no line it wasn't touched
pub record Reports (status : Status) (errors : Change) : Type 0 where
  pub count : ℕ
  pub front : Appends errors.before.bytes errors.after.bytes (take count (error_line status))
  pub whole : ¬ HasFailed errors → Appends errors.before.bytes errors.after.bytes (error_line status)
  pub quiet : error_line status ≡ [] → IsUntouched errors
