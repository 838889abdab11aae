-- The encoding word of a tail record: which columns it holds, what kind of write it is, the record's slot, and the null columns.
use Rattle.std.specs.Prelude.{Bool, not, ◌&&◌, ℕ, ◌+◌, ◌-◌, ◌*◌, ◌/◌, ◌%◌, ◌^◌, ◌<◌, ◌≤◌, ◌≡◌, ◌==◌, if◌then◌else◌}
use Rattle.std.specs.Int.{bit_at}
use Rattle.lst_bits.specs.declared.encodings.Encoding.{Encoding}
use Rattle.lst_bits.specs.declared.encodings.Kind.{Kind}
use Rattle.lst_bits.specs.declared.encodings.Kind.TheVariants.{Put, Set, Del}
use Rattle.lst_bits.specs.Packing.{IsPacking}

abbrev pub kind_code : Kind → ℕ
kind_code Put = 1
kind_code Set = 2
kind_code Del = 3

abbrev pub kind_of : ℕ → Kind
kind_of code = if code == 1 then Put else (if code == 2 then Set else Del)

-- 8 bits each of mask, kind, slot and nulls
abbrev pub encoding_word : Encoding → ℕ
encoding_word e = e.mask + 256 * kind_code e.kind + 65536 * e.slot + 16777216 * e.nulls

abbrev pub mask_of : ℕ → ℕ
mask_of word = word % 256

abbrev pub code_of : ℕ → ℕ
code_of word = word / 256 % 256

abbrev pub slot_of : ℕ → ℕ
slot_of word = word / 65536 % 256

abbrev pub nulls_of : ℕ → ℕ
nulls_of word = word / 16777216

abbrev pub encoding_of : ℕ → Encoding
encoding_of word = record { mask = mask_of word; kind = kind_of (code_of word); slot = slot_of word; nulls = nulls_of word }

-- column c has bit c of the mask
abbrev pub HasColumn : ℕ → ℕ → Type 0
HasColumn mask column = bit_at mask column ≡ 1

-- under an encoding word the column is held, with a number
unfoldable pub has_number : ℕ → ℕ → Bool
has_number word column = bit_at (mask_of word) column == 1 && not (bit_at (nulls_of word) column == 1)

-- each null column is one that the mask holds
abbrev pub AreWithin : ℕ → ℕ → Type 0
AreWithin nulls mask = (column : ℕ) → HasColumn nulls column → HasColumn mask column

pub record IsEncoding (e : Encoding) : Type 0 where
  pub mask : e.mask < 256
  pub slot : e.slot < 256
  pub nulls : e.nulls < 256
  pub within : AreWithin e.nulls e.mask

-- the word of some encoding: its kind is one of the three, and its nulls are within its mask
pub record IsEncodingWord (word : ℕ) : Type 0 where
  pub wide : word < 2 ^ 32
  pub some : 0 < code_of word
  pub kind : code_of word ≤ 3
  pub within : AreWithin (nulls_of word) (mask_of word)

-- the mask that fits the kind: a put holds every column, a set at least one, a delete none
abbrev pub IsMaskOf : ℕ → Kind → ℕ → Type 0
IsMaskOf columns Put mask = mask ≡ 2 ^ columns - 1
IsMaskOf columns Set mask = (0 < mask) × (mask < 2 ^ columns)
IsMaskOf columns Del mask = mask ≡ 0

abbrev pub EncodingsArePacked : Type 0
EncodingsArePacked = IsPacking IsEncoding IsEncodingWord encoding_word encoding_of
