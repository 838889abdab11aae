-- Words that hold a number or none: 0 for none, else one above the number.
use Rattle.std.specs.Prelude.{ℕ, ◌+◌, ◌-◌, ◌<◌, ◌≤◌, ◌==◌, Option, Some, None, if◌then◌else◌}
use Rattle.lst_bits.specs.Packing.{IsPacking}

abbrev pub number_word : Option ℕ → ℕ
number_word None = 0
number_word (Some number) = number + 1

abbrev pub number_of : ℕ → Option ℕ
number_of word = if word == 0 then None else Some (word - 1)

-- there is no number, or it is below the bound
abbrev pub IsBelow : ℕ → Option ℕ → Type 0
IsBelow bound None = Unit {0}
IsBelow bound (Some number) = number < bound

-- the word of some number below the bound, or of none
abbrev pub IsNumberWord : ℕ → ℕ → Type 0
IsNumberWord bound word = word ≤ bound

abbrev pub NumbersArePacked : Type 0
NumbersArePacked = (bound : ℕ) → IsPacking (IsBelow bound) (IsNumberWord bound) number_word number_of
