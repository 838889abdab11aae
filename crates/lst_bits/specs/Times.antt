-- The time word of a page's entry: when it was written, and whether the record is present.
use Rattle.std.specs.Prelude.{ℕ, ◌+◌, ◌*◌, ◌/◌, ◌%◌, ◌^◌, ◌<◌, Bool, ◌==◌, if◌then◌else◌}
use Rattle.lst_bits.specs.Packing.{IsPacking}

abbrev pub time_word : ℕ → Bool → ℕ
time_word time present = 2 * time + (if present then 1 else 0)

abbrev pub time_of : ℕ → ℕ
time_of word = word / 2

abbrev pub is_present : ℕ → Bool
is_present word = word % 2 == 1

-- every word is the word of some time
abbrev pub IsTimeWord : ℕ → Type 0
IsTimeWord word = word < 2 ^ 64

abbrev pub TimesArePacked : Type 0
TimesArePacked = IsPacking {A = ℕ × Bool} (λ t. t.0 < 2 ^ 63) IsTimeWord (λ t. time_word t.0 t.1) (λ w. (time_of w, is_present w))
