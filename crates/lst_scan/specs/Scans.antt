-- What a scan sees: the table of a session's open transaction, and its rows by the records that their keys are on.
use Rattle.std.specs.Prelude.{◌≡◌, ℕ, Bool, true, false, ◌&&◌, nat_le, nat_lt, List, Option, Some, None}
use Rattle.std.specs.List.{Contains}
use Rattle.std.specs.FinMap.{retain_keys}
use Rattle.lst_model.specs.Cells.{Cell, holds_at}
use Rattle.lst_model.specs.Tables.{Rows, row_of}
use Rattle.lst_model.specs.Histories.{snapshot}
use Rattle.lst_core_state.specs.declared.known.Known.{Known}
use Rattle.lst_rule.specs.declared.records.RecordId.{RecordId}
use Rattle.lst_rule.specs.Seen.{HasKey}
use Rattle.lst_walk.specs.Patches.{cell_in}

-- the table that the open transaction sees: the snapshot at its begin, of what the session has seen, with its own writes on it
abbrev pub table_seen : Known → Rows
table_seen k = snapshot k.seen k.begin k.own

-- the row in that table of a key that is known to be on the record; None where the table has no row of such a key
abbrev pub IsRowOn : Known → ℕ → Option (List Cell) → Type 0
IsRowOn k rec (Some row) = (key : ℕ) × HasKey k.facts rec key × (row_of (table_seen k) key ≡ Some row)
IsRowOn k rec None = (key : ℕ) → HasKey k.facts rec key → row_of (table_seen k) key ≡ None

-- the same with the key, which the record has then
abbrev pub IsEntryOn : Known → ℕ → Option (ℕ × List Cell) → Type 0
IsEntryOn k rec (Some entry) = HasKey k.facts rec entry.0 × (row_of (table_seen k) entry.0 ≡ Some entry.1)
IsEntryOn k rec None = IsRowOn k rec None

-- the entry of a row that a call put in its place, with the key that it answers
abbrev pub entry_where : Option ℕ → List Cell → Option (ℕ × List Cell)
entry_where (Some key) row = Some (key, row)
entry_where None row = None

-- and the number of a column in the row, 0 for null
abbrev pub IsCellOn : Known → ℕ → ℕ → Option ℕ → Type 0
IsCellOn k rec column cell = (row : Option (List Cell)) × IsRowOn k rec row × (cell ≡ cell_in column row)

-- place says of the key of each row in that table which record it is on
abbrev pub Places : Known → (ℕ → ℕ) → Type 0
Places k place = (key : ℕ) (row : List Cell) → row_of (table_seen k) key ≡ Some row → HasKey k.facts (place key) key

-- the number is one from `low` up to and without `high`
abbrev pub is_between : ℕ → ℕ → ℕ → Bool
is_between low high number = nat_le low number && nat_lt number high

-- the rows of a table whose keys are on records from `low` up to and without `high`
abbrev pub between : (ℕ → ℕ) → ℕ → ℕ → Rows → Rows
between place low high table = retain_keys table (λ key. is_between low high (place key))

-- ---- finds

-- the entry, where its row has this number in the column; None where it hasn't, or there is no row
abbrev pub IsEntryWith : Known → ℕ → ℕ → ℕ → Option (ℕ × List Cell) → Type 0
IsEntryWith k rec column number (Some entry) = IsEntryOn k rec (Some entry) × (holds_at column number entry.1 ≡ true)
IsEntryWith k rec column number None = (entry : ℕ × List Cell) → IsEntryOn k rec (Some entry) → holds_at column number entry.1 ≡ false

-- each record on which a row with this number in the column is seen is among these
abbrev pub AreCandidates : Known → ℕ → ℕ → List RecordId → Type 0
AreCandidates k column number records = (rec : ℕ) (row : List Cell) → IsRowOn k rec (Some row) → holds_at column number row ≡ true → Contains records record { number = rec }
