-- The text of a table: the header, and the rows by rising key.
use Rattle.std.specs.Prelude.{◌≡◌, ℕ, ◌<◌, List, [], ◌∷◌, false, Option, Some, None, map, length, codes, decimal}
use Rattle.std.specs.List.{AllByRecursion}
use Rattle.csv.specs.Writing.{default_writer, fields_written, has_written, text_written, writer_setup}
use Rattle.csv.specs.declared.writer.Writer.{Writer}
use Rattle.lst_model.specs.Cells.{Cell}
use Rattle.lst_model.specs.declared.commits.Commit.{Commit}
use Rattle.lst_model.specs.Histories.{table_at}
use Rattle.lst_model.specs.Tables.{Rows, scan_of}
use Rattle.lst_csv.specs.Records.{text_of_records}

-- null is the empty field
abbrev pub field_of_cell : Cell → List ℕ
field_of_cell None = []
field_of_cell (Some number) = decimal number

-- a row with its key
abbrev pub record_of_row : ℕ × List Cell → List (List ℕ)
record_of_row row = decimal row.0 ∷ map field_of_cell row.1

-- the word `key` and the names
abbrev pub header_of : List (List ℕ) → List (List ℕ)
header_of names = codes "key" ∷ names

-- the records of rows under the names of their columns
abbrev pub records_of_rows : List (List ℕ) → List (ℕ × List Cell) → List (List (List ℕ))
records_of_rows names rows = header_of names ∷ map record_of_row rows

abbrev pub rows_text : List (List ℕ) → List (ℕ × List Cell) → List ℕ
rows_text names rows = text_of_records (records_of_rows names rows)

abbrev pub table_text : List (List ℕ) → Rows → List ℕ
table_text names table = rows_text names (scan_of table)

-- the table that all commits of a history make
abbrev pub history_text : List (List ℕ) → List Commit → List ℕ
history_text names history = table_text names (table_at history (length history))

-- a writer with the defaults between records, which has written this text
pub record HasWritten {W : Type 0} (writer : Writer W) (contents : W → Option (List ℕ)) (text : List ℕ) : Type 0 where
  pub setup : writer_setup writer ≡ default_writer
  pub between : fields_written writer ≡ 0
  pub fresh : has_written writer ≡ false
  pub bytes : text_written contents writer ≡ Some text

-- rows are those of a table, by rising key, and each key is below a floor
abbrev pub IsListed : ℕ → List (ℕ × List Cell) → Rows → Type 0
IsListed floor rows table = AllByRecursion (λ (row : ℕ × List Cell). row.0 < floor) rows × (scan_of table ≡ rows)
