-- How a script names the columns of its table: by their numbers in version 1, by their names in version 2.
use Rattle.std.specs.Prelude.{◌≡◌, ℕ, List, [], Bool, true, false, nat_lt, Option, Some, None, option_map, length, position, slice_index_or, if◌then◌else◌, bytes_eq, decimal}
use Rattle.lst_names.specs.Names.{are_names}
use Rattle.lst_script.specs.Numbers.{number_of}

pub data Columns : Type 0 where
  numbered : ℕ → Columns
  named : List (List ℕ) → Columns

-- the number of columns
abbrev pub count_of : Columns → ℕ
count_of (numbered count) = count
count_of (named names) = length names

-- the column with this name
abbrev pub column_named : List (List ℕ) → List ℕ → Option ℕ
column_named names word = position (λ name. bytes_eq name word) names

-- What a word says of a column: None where it has to be a number and is none, and Some None where there is no such column
abbrev pub column_read : Columns → List ℕ → Option (Option ℕ)
column_read (numbered count) word = option_map (λ n. if nat_lt n count then Some n else None) (number_of word)
column_read (named names) word = Some (column_named names word)

-- a word is this column
abbrev pub IsColumn : Columns → List ℕ → ℕ → Type 0
IsColumn columns word column = column_read columns word ≡ Some (Some column)

-- whether columns have names
abbrev pub are_named : Columns → Bool
are_named (numbered count) = false
are_named (named names) = true

-- the names, where there are some, are such as a header may give
abbrev pub AreProper : Columns → Type 0
AreProper (numbered count) = Unit {0}
AreProper (named names) = are_names (length names) names ≡ true

-- the canonical word of a column
abbrev pub column_word : Columns → ℕ → List ℕ
column_word (numbered count) column = decimal column
column_word (named names) column = slice_index_or names column []
