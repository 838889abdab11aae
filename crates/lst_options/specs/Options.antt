-- The options of a store, of a table and of a load on a command line: which words are taken, and which limits, numbers and levels they give.
use Rattle.std.specs.Prelude.{◌≡◌, ℕ, ◌^◌, ◌&&◌, ◌==◌, ◌<◌, ◌≤◌, nat_le, nat_lt, List, [], ◌∷◌, Option, Some, None, option_and_then, option_map, if◌then◌else◌, codes}
use Rattle.clap.specs.Words.{Text, fault_of, first_of, matches_of}
use Rattle.lst_layout.specs.declared.limits.Limits.{Limits}
use Rattle.lst_layout.specs.Limits.{default_limits}
use Rattle.lst_script.specs.Numbers.{number_of}
use Rattle.lst_legal_runs.specs.declared.levels.Level.{Level}
use Rattle.lst_legal_runs.specs.declared.levels.Level.TheVariants.{Snapshot, Serializable}
use Rattle.lst_options.specs.declared.as_of.AsOfOptions.{AsOfOptions}
use Rattle.lst_options.specs.declared.crash.CrashOptions.{CrashOptions}
use Rattle.lst_options.specs.declared.crash.DiskOptions.{DiskOptions}
use Rattle.lst_options.specs.declared.level.LevelOptions.{LevelOptions}
use Rattle.lst_options.specs.declared.load.LoadNumbers.{LoadNumbers}
use Rattle.lst_options.specs.Words.{as_of_options, crash_options, level_options, load_options, run_options, table_options}

-- ---- the values

-- a number from the least to the most
abbrev pub within : ℕ → ℕ → ℕ → Option ℕ
within least most n = if nat_le least n && nat_le n most then Some n else None

-- the number of an option; where it isn't given, its default
abbrev pub number_or : ℕ → ℕ → ℕ → Option Text → Option ℕ
number_or default least most None = Some default
number_or default least most (Some text) = option_and_then (within least most) (number_of text)

-- a column of the table, as its bit
abbrev pub bit_of : ℕ → ℕ → Option ℕ
bit_of columns column = if nat_lt column columns then Some (2 ^ column) else None

-- the set of the one indexed column, as its bit; no bit where no index is asked for
abbrev pub index_or : ℕ → Option Text → Option ℕ
index_or columns None = Some 0
index_or columns (Some text) = option_and_then (bit_of columns) (number_of text)

-- the seed of a generated script, which is any number; where it isn't given, 1
abbrev pub seed_or_one : Option Text → Option ℕ
seed_or_one None = Some 1
seed_or_one (Some text) = number_of text

-- a time, which is any number; where it isn't given, 0
abbrev pub time_or_zero : Option Text → Option ℕ
time_or_zero None = Some 0
time_or_zero (Some text) = number_of text

-- a level of isolation by its number: 1 or 2
abbrev pub level_numbered : ℕ → Option Level
level_numbered number = if number == 1 then Some Snapshot else if number == 2 then Some Serializable else None

-- a level; where it isn't given, snapshot isolation, which is level 1
abbrev pub level_or_snapshot : Option Text → Option Level
level_or_snapshot None = Some Snapshot
level_or_snapshot (Some text) = option_and_then level_numbered (number_of text)

-- ---- the options of a store

-- the value of each option gives its limit
pub record GivesLimits (value : Text → Option Text) (limits : Limits) : Type 0 where
  pub columns : number_or default_limits.columns 1 8 (value (codes "columns")) ≡ Some limits.columns
  pub ranges : number_or default_limits.ranges 1 64 (value (codes "ranges")) ≡ Some limits.ranges
  pub tails : number_or default_limits.tails 1 16384 (value (codes "tails")) ≡ Some limits.tails
  pub sessions : number_or default_limits.sessions 1 16 (value (codes "sessions")) ≡ Some limits.sessions
  pub txns : number_or default_limits.txns 1 65535 (value (codes "txns")) ≡ Some limits.txns
  pub spare : number_or default_limits.spare 1 64 (value (codes "spare")) ≡ Some limits.spare
  pub indexed : index_or limits.columns (value (codes "index")) ≡ Some limits.indexed

-- the words behind a command are taken, each option with one value and none twice, and their values give each limit
pub record NamesLimits (words : List Text) (limits : Limits) : Type 0 where
  pub taken : fault_of run_options ([] ∷ words) ≡ []
  pub gives : GivesLimits (λ name. first_of name (matches_of run_options ([] ∷ words))) limits

-- these are the limits that the words name, or they name none
abbrev pub TellsLimits : List Text → Option Limits → Type 0
TellsLimits words (Some limits) = NamesLimits words limits
TellsLimits words None = (limits : Limits) → ¬ NamesLimits words limits

-- ---- the options of a store, and a time

-- the value of each option gives its limit, or the time
pub record GivesAsOf (value : Text → Option Text) (options : AsOfOptions) : Type 0 where
  pub limits : GivesLimits value options.limits
  pub time : time_or_zero (value (codes "time")) ≡ Some options.time

-- the words behind `asof` are taken, each option with one value and none twice, and their values give the limits and the time
pub record NamesAsOf (words : List Text) (options : AsOfOptions) : Type 0 where
  pub taken : fault_of as_of_options ([] ∷ words) ≡ []
  pub gives : GivesAsOf (λ name. first_of name (matches_of as_of_options ([] ∷ words))) options

-- these are the limits and the time that the words name, or they name none
abbrev pub TellsAsOf : List Text → Option AsOfOptions → Type 0
TellsAsOf words (Some options) = NamesAsOf words options
TellsAsOf words None = (options : AsOfOptions) → ¬ NamesAsOf words options

-- ---- the options of a store, and a level

-- the value of each option gives its limit, or the level
pub record GivesLevel (value : Text → Option Text) (options : LevelOptions) : Type 0 where
  pub limits : GivesLimits value options.limits
  pub level : level_or_snapshot (value (codes "level")) ≡ Some options.level

-- the words behind a command are taken, each option with one value and none twice, and their values give the limits and the level
pub record NamesLevel (words : List Text) (options : LevelOptions) : Type 0 where
  pub taken : fault_of level_options ([] ∷ words) ≡ []
  pub gives : GivesLevel (λ name. first_of name (matches_of level_options ([] ∷ words))) options

-- these are the limits and the level that the words name, or they name none
abbrev pub TellsLevel : List Text → Option LevelOptions → Type 0
TellsLevel words (Some options) = NamesLevel words options
TellsLevel words None = (options : LevelOptions) → ¬ NamesLevel words options

-- ---- the options of a store, and a disk

-- the value of each option gives the number of the disk's calls, whether it tears, or how many bytes it has
pub record GivesDisk (value : Text → Option Text) (disk : DiskOptions) : Type 0 where
  pub stop : number_or 1000000 0 1000000 (value (codes "stop")) ≡ Some disk.stop
  pub torn : option_map (λ number. number == 1) (number_or 0 0 1 (value (codes "torn"))) ≡ Some disk.torn
  pub bytes : number_or 65536 64 262144 (value (codes "bytes")) ≡ Some disk.bytes

-- the value of each option gives its limit, or what it says of the disk
pub record GivesCrash (value : Text → Option Text) (options : CrashOptions) : Type 0 where
  pub limits : GivesLimits value options.limits
  pub disk : GivesDisk value options.disk

-- the words behind `crash` are taken, each option with one value and none twice, and their values give the limits and the disk
pub record NamesCrash (words : List Text) (options : CrashOptions) : Type 0 where
  pub taken : fault_of crash_options ([] ∷ words) ≡ []
  pub gives : GivesCrash (λ name. first_of name (matches_of crash_options ([] ∷ words))) options

-- these are the limits and the disk that the words name, or they name none
abbrev pub TellsCrash : List Text → Option CrashOptions → Type 0
TellsCrash words (Some options) = NamesCrash words options
TellsCrash words None = (options : CrashOptions) → ¬ NamesCrash words options

-- as many bytes as a disk may have
pub record IsDisk (disk : DiskOptions) : Type 0 where
  pub some : 64 ≤ disk.bytes
  pub few : disk.bytes ≤ 262144

-- ---- the options of a table

-- the value of the option gives the number of columns, and every other limit is its default
pub record GivesTable (value : Text → Option Text) (limits : Limits) : Type 0 where
  pub columns : number_or default_limits.columns 1 8 (value (codes "columns")) ≡ Some limits.columns
  pub others : limits ≡ record default_limits { columns = limits.columns }

-- the words behind `import` are taken, the option with one value and not twice, and its value gives the limits
pub record NamesTable (words : List Text) (limits : Limits) : Type 0 where
  pub taken : fault_of table_options ([] ∷ words) ≡ []
  pub gives : GivesTable (λ name. first_of name (matches_of table_options ([] ∷ words))) limits

-- these are the limits of the table that the words name, or they name none
abbrev pub TellsTable : List Text → Option Limits → Type 0
TellsTable words (Some limits) = NamesTable words limits
TellsTable words None = (limits : Limits) → ¬ NamesTable words limits

-- ---- the options of a load

-- the value of each option gives its number
pub record GivesLoad (value : Text → Option Text) (load : LoadNumbers) : Type 0 where
  pub seed : seed_or_one (value (codes "seed")) ≡ Some load.seed
  pub keys : number_or 1000 1 4096 (value (codes "keys")) ≡ Some load.keys
  pub sessions : number_or 4 1 16 (value (codes "sessions")) ≡ Some load.sessions

-- the words behind `load` are taken, each option with one value and none twice, and their values give each number
pub record NamesLoad (words : List Text) (load : LoadNumbers) : Type 0 where
  pub taken : fault_of load_options ([] ∷ words) ≡ []
  pub gives : GivesLoad (λ name. first_of name (matches_of load_options ([] ∷ words))) load

-- this is the load that the words name, or they name none
abbrev pub TellsLoad : List Text → Option LoadNumbers → Type 0
TellsLoad words (Some load) = NamesLoad words load
TellsLoad words None = (load : LoadNumbers) → ¬ NamesLoad words load

-- as many keys and sessions as a load may have
pub record IsLoadable (load : LoadNumbers) : Type 0 where
  pub some : 0 < load.keys
  pub few : load.keys ≤ 4096
  pub hosts : 0 < load.sessions
  pub most : load.sessions ≤ 16
