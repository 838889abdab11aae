-- The commands of a command line.
use Rattle.std.specs.Prelude.{◌≡◌, ℕ, List, ◌∷◌, Option, Some, None, codes}
use Rattle.lst_layout.specs.declared.limits.Limits.{Limits}
use Rattle.lst_layout.specs.Limits.{IsValid}
use Rattle.lst_options.specs.declared.load.LoadNumbers.{LoadNumbers}
use Rattle.lst_options.specs.Options.{IsDisk, IsLoadable, NamesAsOf, NamesCrash, NamesLevel, NamesLimits, NamesLoad, NamesTable}
use Rattle.lst_command.specs.declared.command.Command.{Command}
use Rattle.lst_command.specs.declared.command.Command.TheVariants.{Input, Load}
use Rattle.lst_command.specs.declared.command.Task.{Task}
use Rattle.lst_command.specs.declared.command.Task.TheVariants.{Run, Work, Check, Migrate, AsOf, Import, Dump, Crash}

-- the word of a task
abbrev pub task_word : Task → List ℕ
task_word Run = codes "run"
task_word (Work level) = codes "work"
task_word (Check level) = codes "check"
task_word Migrate = codes "migrate"
task_word (AsOf time) = codes "asof"
task_word Import = codes "import"
task_word Dump = codes "dump"
task_word (Crash disk) = codes "crash"

-- the options behind it name these limits, and the time, the level or the disk; of a table they name the columns alone
abbrev pub NamesOptions : List (List ℕ) → Task → Limits → Type 0
NamesOptions options Run limits = NamesLimits options limits
NamesOptions options (Work level) limits = NamesLevel options (record { limits = limits; level = level })
NamesOptions options (Check level) limits = NamesLevel options (record { limits = limits; level = level })
NamesOptions options Migrate limits = NamesLimits options limits
NamesOptions options (AsOf time) limits = NamesAsOf options (record { limits = limits; time = time })
NamesOptions options Import limits = NamesTable options limits
NamesOptions options Dump limits = NamesLimits options limits
NamesOptions options (Crash disk) limits = NamesCrash options (record { limits = limits; disk = disk })

-- the options of a store stand behind the word, and no others
abbrev pub TakesLimits : Task → Type 0
TakesLimits (Work level) = ⊥
TakesLimits (Check level) = ⊥
TakesLimits (AsOf time) = ⊥
TakesLimits Import = ⊥
TakesLimits (Crash disk) = ⊥
TakesLimits task = Unit {0}

-- the words are the word of the task, and behind it options that name these limits
pub record NamesTask (words : List (List ℕ)) (task : Task) (limits : Limits) : Type 0 where
  pub options : List (List ℕ)
  pub word : words ≡ task_word task ∷ options
  pub gives : NamesOptions options task limits

-- the words are the word of a load, and behind it options that name its numbers
pub record NamesLoading (words : List (List ℕ)) (numbers : LoadNumbers) : Type 0 where
  pub options : List (List ℕ)
  pub word : words ≡ codes "load" ∷ options
  pub gives : NamesLoad options numbers

-- the words name this command
abbrev pub Names : List (List ℕ) → Command → Type 0
Names words (Input task limits) = NamesTask words task limits
Names words (Load numbers) = NamesLoading words numbers

-- the words are no command line
abbrev pub NamesNone : List (List ℕ) → Type 0
NamesNone words = (command : Command) → ¬ Names words command

-- this is the command that the words name, or they name none
abbrev pub TellsCommand : List (List ℕ) → Option Command → Type 0
TellsCommand words (Some command) = Names words command
TellsCommand words None = NamesNone words

-- where the task is on a disk, that has as many bytes as one may have
abbrev pub HasDisk : Task → Type 0
HasDisk (Crash disk) = IsDisk disk
HasDisk task = Unit {0}

-- a command has limits of a store and a disk if it needs one, or numbers of a load
abbrev pub IsRunnable : Command → Type 0
IsRunnable (Input task limits) = IsValid limits × HasDisk task
IsRunnable (Load numbers) = IsLoadable numbers
