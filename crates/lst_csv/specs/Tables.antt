-- Which records are a table of named columns: the header, and a record for each row. Else the first faulty record, and what is wrong with it.
use Rattle.std.specs.Prelude.{◌≡◌, ℕ, ◌+◌, List, [], ◌∷◌, Bool, false, not, ◌&&◌, ◌==◌, Option, Some, None, is_some, unwrap_or, option_map, map, drop, length, slice_index_or, if◌then◌else◌, codes, bytes_eq}
use Rattle.std.specs.List.{list_all, list_any}
use Rattle.lst_model.specs.Cells.{Cell}
use Rattle.lst_script.specs.Numbers.{number_of}
use Rattle.lst_names.specs.Names.{are_names}
use Rattle.lst_csv.specs.declared.faults.TableFault.{TableFault}
use Rattle.lst_csv.specs.declared.faults.TableFault.TheVariants.{BadHeader, BadLength, BadField, RepeatedKey, TooManyRows}
use Rattle.lst_csv.specs.declared.faults.TableRefusal.{TableRefusal}
use Rattle.lst_csv.specs.declared.faults.TableRefusal.TheVariants as refusals

-- ---- fields

abbrev pub field_at : List (List ℕ) → ℕ → List ℕ
field_at fields place = slice_index_or fields place []

-- the cell that a field is: null where it is empty, else a number
abbrev pub cell_of_field : List ℕ → Option Cell
cell_of_field [] = Some None
cell_of_field (byte ∷ bytes) = option_map Some (number_of (byte ∷ bytes))

-- the key of a record
abbrev pub key_of : List (List ℕ) → ℕ
key_of fields = unwrap_or (number_of (field_at fields 0)) 0

-- the cell that a field is, null where it is none
abbrev pub cell_at : List ℕ → Cell
cell_at field = unwrap_or (cell_of_field field) None

-- the row of a record
abbrev pub row_of_record : List (List ℕ) → ℕ × List Cell
row_of_record fields = (key_of fields, map cell_at (drop 1 fields))

-- ---- the header

-- the word `key` and names of the columns
abbrev pub is_header : ℕ → List (List ℕ) → Bool
is_header columns [] = false
is_header columns (first ∷ names) = bytes_eq first (codes "key") && are_names columns names

-- ---- faults

-- the place of the record that makes too many rows
abbrev pub place_too_far : ℕ
place_too_far = 16386

-- a number, and then cells
abbrev pub are_fields : List (List ℕ) → Bool
are_fields fields = is_some (number_of (field_at fields 0)) && list_all (λ field. is_some (cell_of_field field)) (drop 1 fields)

-- what is wrong with a record behind the header, where these are the keys of the records between
abbrev pub record_fault : ℕ → ℕ → List ℕ → List (List ℕ) → Option TableFault
record_fault columns place keys fields =
    if place == place_too_far then Some TooManyRows
    else if not (length fields == columns + 1) then Some BadLength
    else if not (are_fields fields) then Some BadField
    else if list_any (λ key. key == key_of fields) keys then Some RepeatedKey
    else None

abbrev pub faulty_or : ℕ → Option TableFault → Option (ℕ × TableFault) → Option (ℕ × TableFault)
faulty_or place None later = later
faulty_or place (Some kind) later = Some (place, kind)

-- the place of the first faulty record of these, the first of which has this place, and its fault
abbrev pub first_faulty : ℕ → ℕ → List ℕ → List (List (List ℕ)) → Option (ℕ × TableFault)
first_faulty columns place keys [] = None
first_faulty columns place keys (fields ∷ records) = faulty_or place (record_fault columns place keys fields) (first_faulty columns (place + 1) (key_of fields ∷ keys) records)

-- the place of the first faulty record, counted from 1, and its fault: none where the records are a table
abbrev pub table_fault : ℕ → List (List (List ℕ)) → Option (ℕ × TableFault)
table_fault columns [] = Some (1, BadHeader)
table_fault columns (header ∷ records) = if is_header columns header then first_faulty columns 2 [] records else Some (1, BadHeader)

-- ---- the table

-- the names of the columns
abbrev pub names_of : List (List (List ℕ)) → List (List ℕ)
names_of [] = []
names_of (header ∷ records) = drop 1 header

-- the rows, each with its key, in the order of the records
abbrev pub rows_of : List (List (List ℕ)) → List (ℕ × List Cell)
rows_of records = map row_of_record (drop 1 records)

-- why records aren't a table: the first faulty one, or want of memory
abbrev pub Explains : ℕ → List (List (List ℕ)) → TableRefusal → Type 0
Explains columns records (refusals.Bad place kind) = table_fault columns records ≡ Some (place, kind)
Explains columns records refusals.OutOfMemory = Unit {0}

-- the same of records that stand behind others
abbrev pub ExplainsRest : ℕ → ℕ → List ℕ → List (List (List ℕ)) → TableRefusal → Type 0
ExplainsRest columns place keys records (refusals.Bad at kind) = first_faulty columns place keys records ≡ Some (at, kind)
ExplainsRest columns place keys records refusals.OutOfMemory = Unit {0}
