-- The script that stands for a table: one transaction of session 0 with an insert for each row.
use Rattle.std.specs.Prelude.{ℕ, List, [], ◌∷◌, ◌++◌, Some, None, codes, decimal, drop, flat_map, map}
use Rattle.lst_model.specs.declared.lines.Line.{Line}
use Rattle.lst_model.specs.declared.lines.Line.TheVariants as lines
use Rattle.lst_model.specs.declared.lines.Call.TheVariants.{Begin, Insert, Commit}
use Rattle.lst_model.specs.Cells.{Cell}
use Rattle.lst_script.specs.Canonical.{named_text}
use Rattle.lst_csv.specs.Tables.{cell_at, key_of, names_of, rows_of}

abbrev pub insert_of : ℕ × List Cell → Line
insert_of row = lines.Call 0 (Insert row.0 row.1)

abbrev pub transaction_of : List (ℕ × List Cell) → List Line
transaction_of rows = lines.Call 0 Begin ∷ (map insert_of rows ++ (lines.Call 0 Commit ∷ []))

-- the text of the script that records stand for
abbrev pub import_of : List (List (List ℕ)) → List ℕ
import_of records = named_text (names_of records) (transaction_of (rows_of records))

-- ---- the line of a record, part for part

-- what stands in front of the number of a column with this name: 32 is the space, and 61 `=`
abbrev pub head_of : List ℕ → List ℕ
head_of name = 32 ∷ (name ++ 61 ∷ [])

-- a cell with what stands in front of it, and null, which has no text
abbrev pub cell_text : List ℕ → Cell → List ℕ
cell_text head None = []
cell_text head (Some number) = head ++ decimal number

abbrev pub cells_text : List (List ℕ) → List Cell → List ℕ
cells_text [] row = []
cells_text (head ∷ heads) [] = []
cells_text (head ∷ heads) (cell ∷ row) = cell_text head cell ++ cells_text heads row

-- the line that inserts the row of a record, where these stand in front of its cells
abbrev pub record_line : List (List ℕ) → List (List ℕ) → List ℕ
record_line heads fields = codes "0 insert " ++ (decimal (key_of fields) ++ (cells_text heads (map cell_at (drop 1 fields)) ++ 10 ∷ []))

abbrev pub records_lines : List (List ℕ) → List (List (List ℕ)) → List ℕ
records_lines heads records = flat_map (record_line heads) records
