-- The indirection word: the newest tail record of a record, and whether a session has it latched.
use Rattle.std.specs.Prelude.{ℕ, ◌+◌, ◌*◌, ◌/◌, ◌%◌, ◌^◌, ◌<◌, Bool, ◌==◌, if◌then◌else◌}
use Rattle.lst_bits.specs.Packing.{IsPacking}

-- twice the tail number of the head, and one more where the record is latched
abbrev pub head_word : ℕ → Bool → ℕ
head_word head latched = if latched then 2 * head + 1 else 2 * head

abbrev pub head_of : ℕ → ℕ
head_of word = word / 2

abbrev pub is_latched : ℕ → Bool
is_latched word = word % 2 == 1

-- the word of some head below 2 ^ 32, latched or not
abbrev pub IsHeadWord : ℕ → Type 0
IsHeadWord word = word < 2 ^ 33

abbrev pub HeadsArePacked : Type 0
HeadsArePacked = IsPacking {A = ℕ × Bool} (λ h. h.0 < 2 ^ 32) IsHeadWord (λ h. head_word h.0 h.1) (λ w. (head_of w, is_latched w))
