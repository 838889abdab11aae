-- What is read of what is written.
use Rattle.std.specs.Prelude.{◌≡◌, ℕ, ◌<◌, ◌≤◌, ◌^◌, true, List, None, Some, length, map}
use Rattle.std.specs.List.{AllByRecursion}
use Rattle.csv.specs.Reading.{strip_bom}
use Rattle.lst_layout.specs.Limits.{IsValid}
use Rattle.lst_layout.specs.declared.limits.Limits.{Limits}
use Rattle.lst_model.specs.declared.acts.Act.TheVariants.{Put}
use Rattle.lst_model.specs.declared.acts.Write.{Write}
use Rattle.lst_model.specs.Cells.{Cell}
use Rattle.lst_model.specs.Tables.{Rows, no_rows, all_applied, scan_of, count_of}
use Rattle.lst_names.specs.Names.{are_names}
use Rattle.lst_csv.specs.Records.{records_of, text_of_records}
use Rattle.lst_csv.specs.Tables.{table_fault, names_of, rows_of}
use Rattle.lst_csv.specs.Importing.{import_of, transaction_of}
use Rattle.lst_csv.specs.Writing.{table_text}
use Rattle.lst_script.specs.Canonical.{named_text}
use Rattle.lst_script.specs.Scripts.{IsNamed}

-- a record has some field
abbrev pub IsRecord : List (List ℕ) → Type 0
IsRecord fields = 0 < length fields

-- records that are written are read again, where the text begins with no byte order mark
abbrev pub RecordsAreReadAgain : List (List (List ℕ)) → Type 0
RecordsAreReadAgain records = AllByRecursion IsRecord records → strip_bom (text_of_records records) ≡ text_of_records records
    → records_of (text_of_records records) ≡ records

-- ---- a table that is written is read again

-- a number of 64 bits, or null
abbrev pub IsCell64 : Cell → Type 0
IsCell64 None = Unit {0}
IsCell64 (Some number) = number < 2 ^ 64

-- a key and a cell for each column
pub record IsRow (columns : ℕ) (row : ℕ × List Cell) : Type 0 where
  pub key : row.0 < 2 ^ 64
  pub width : length row.1 ≡ columns
  pub cells : AllByRecursion IsCell64 row.1

-- the write that a record of a table stands for
abbrev pub put_of : ℕ × List Cell → Write
put_of row = record { key = row.0; act = Put row.1 }

-- records are a table: these names, this table's rows by rising key, the writes that put them make it of the empty table,
-- and the script that they stand for puts them in one transaction
pub record IsTableAgain (columns : ℕ) (names : List (List ℕ)) (table : Rows) (records : List (List (List ℕ))) : Type 0 where
  pub faultless : table_fault columns records ≡ None
  pub names_are : names_of records ≡ names
  pub rows_are : rows_of records ≡ scan_of table
  pub made : all_applied no_rows (map put_of (rows_of records)) ≡ table
  pub script : import_of records ≡ named_text names (transaction_of (scan_of table))

-- the text of the table that the rows of records make, under the names that they have
abbrev pub text_again : List (List (List ℕ)) → List ℕ
text_again records = table_text (names_of records) (all_applied no_rows (map put_of (rows_of records)))

-- of a table of at most 16,384 rows, whose columns have names
abbrev pub TableIsReadAgain : ℕ → List (List ℕ) → Rows → Type 0
TableIsReadAgain columns names table = are_names columns names ≡ true → count_of table ≤ 16384 → AllByRecursion (IsRow columns) (scan_of table)
    → IsTableAgain columns names table (records_of (table_text names table))

-- a table that was written, read and written again is the same text, byte for byte
abbrev pub TextIsTheSame : ℕ → List (List ℕ) → Rows → Type 0
TextIsTheSame columns names table = are_names columns names ≡ true → count_of table ≤ 16384 → AllByRecursion (IsRow columns) (scan_of table)
    → text_again (records_of (table_text names table)) ≡ table_text names table

-- the script of a table that was written is read, under any limits with so many columns, as one transaction that inserts its rows
abbrev pub ScriptIsRead : Limits → List (List ℕ) → Rows → Type 0
ScriptIsRead limits names table = IsValid limits → are_names limits.columns names ≡ true → count_of table ≤ 16384 → AllByRecursion (IsRow limits.columns) (scan_of table)
    → IsNamed limits (import_of (records_of (table_text names table))) (record { names = names; script = transaction_of (scan_of table) })

-- the script that stands for any records without a fault is read, under any limits with so many columns, as one transaction that inserts their rows
abbrev pub AnyScriptIsRead : Limits → List (List (List ℕ)) → Type 0
AnyScriptIsRead limits records = IsValid limits → table_fault limits.columns records ≡ None
    → IsNamed limits (import_of records) (record { names = names_of records; script = transaction_of (rows_of records) })
