-- A table that is dumped, imported, and dumped again.
use Rattle.std.specs.Prelude.{◌≡◌, ℕ, ◌≤◌, List, true}
use Rattle.std.specs.List.{AllByRecursion}
use Rattle.lst_layout.specs.Limits.{IsValid}
use Rattle.lst_layout.specs.declared.limits.Limits.{Limits}
use Rattle.lst_model.specs.Tables.{Rows, scan_of, count_of}
use Rattle.lst_names.specs.Names.{are_names}
use Rattle.lst_csv.specs.Importing.{import_of}
use Rattle.lst_csv.specs.Laws.{IsRow}
use Rattle.lst_csv.specs.Records.{records_of}
use Rattle.lst_csv.specs.Writing.{table_text}
use Rattle.lst_replay_laws.specs.Puts.{HasRoomForRows}
use Rattle.lst_command.specs.Owed.{IsAnyScript, OwesDump, OwesTable}
use Rattle.lst_command.specs.Runs.{Left}

-- what an import owes is read as a script, under any limits with as many columns
abbrev pub ImportIsScript : Type 0
ImportIsScript = (importing limits : Limits) (input text : List ℕ) → IsValid limits → importing.columns ≡ limits.columns → OwesTable importing input text → IsAnyScript limits text

-- the text of a table of at most 16,384 rows, each a key and a cell for each column, under names of the columns
pub record IsTextOfTable (columns : ℕ) (names : List (List ℕ)) (table : Rows) (text : List ℕ) : Type 0 where
  pub named : are_names columns names ≡ true
  pub few : count_of table ≤ 16384
  pub rows : AllByRecursion (IsRow columns) (scan_of table)
  pub is_text : text ≡ table_text names table

-- An import takes the text. Of what it owes for it, where a new store has room for the rows, a dump owes the same text, byte for byte
pub record ComesBack (importing limits : Limits) (table : Rows) (text : List ℕ) : Type 0 where
  pub taken : OwesTable importing text (import_of (records_of text))
  pub same : HasRoomForRows limits (count_of table) → (script again : List ℕ) (left : Left) → OwesTable importing text script → OwesDump limits script again left → again ≡ text

abbrev pub TablesComeBack : Type 0
TablesComeBack = (importing limits : Limits) (names : List (List ℕ)) (table : Rows) (text : List ℕ) → IsValid limits → importing.columns ≡ limits.columns → IsTextOfTable limits.columns names table text
    → ComesBack importing limits table text

-- What any dump owes is such a text: an import takes it, and of what it owes for it, under limits with 256 tail records for each range or more, a dump owes
-- the same text, byte for byte
pub record DumpComesBack (importing limits : Limits) (text : List ℕ) : Type 0 where
  pub taken : OwesTable importing text (import_of (records_of text))
  pub same : 256 ≤ limits.tails → (script again : List ℕ) (left : Left) → OwesTable importing text script → OwesDump limits script again left → again ≡ text

abbrev pub DumpsComeBack : Type 0
DumpsComeBack = (importing limits : Limits) (input text : List ℕ) (left : Left) → IsValid limits → importing.columns ≡ limits.columns → OwesDump limits input text left → DumpComesBack importing limits text
