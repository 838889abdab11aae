-- The words of an act in a tail.
use Rattle.std.specs.Prelude.{◌≡◌, ℕ, ◌-◌, ◌%◌, ◌^◌, cond, eqb, None, length, get_or}
use Rattle.lst_model.specs.declared.acts.Act.{Act}
use Rattle.lst_model.specs.declared.acts.Act.TheVariants.{Put, Set, Del}
use Rattle.lst_model.specs.Cells.{number_at, null_bits, bits_to_null, bits_set, changed_number}
use Rattle.lst_model.specs.Lines.{IsPatch}
use Rattle.lst_bits.specs.declared.encodings.Encoding.{Encoding}
use Rattle.lst_bits.specs.declared.encodings.Kind.TheVariants as kinds
use Rattle.lst_bits.specs.Encodings.{encoding_word}

-- an act on a table with this many columns: a put of each, a set of at least one, or a delete
abbrev pub IsActFor : ℕ → Act → Type 0
IsActFor columns (Put row) = length row ≡ columns
IsActFor columns (Set patch) = IsPatch columns patch
IsActFor columns Del = Unit {0}

-- what the encoding word of the act on the record says
abbrev pub encoded : ℕ → ℕ → Act → Encoding
encoded columns rec (Put row) = record { mask = 2 ^ columns - 1; kind = kinds.Put; slot = rec % 256; nulls = null_bits row }
encoded columns rec (Set patch) = record { mask = bits_set patch; kind = kinds.Set; slot = rec % 256; nulls = bits_to_null patch }
encoded columns rec Del = record { mask = 0; kind = kinds.Del; slot = rec % 256; nulls = 0 }

abbrev pub encoding_of : ℕ → ℕ → Act → ℕ
encoding_of columns rec act = encoding_word (encoded columns rec act)

-- the value word of a column, which is 0 where the act leaves the column as it is or makes it null
abbrev pub value_of : Act → ℕ → ℕ
value_of (Put row) c = number_at c row
value_of (Set patch) c = changed_number (get_or patch c None)
value_of Del c = 0

-- the word at a place of the tail, but the start word
abbrev pub cell_word : ℕ → ℕ → Act → ℕ → ℕ
cell_word encoding head act p = cond (eqb p 1) encoding (cond (eqb p 2) head (value_of act (p - 3)))
