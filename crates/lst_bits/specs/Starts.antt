-- The start word of a tail record: not stored, the transaction that wrote it, or the time at which that committed.
use Rattle.std.specs.Prelude.{ℕ, ◌+◌, ◌*◌, ◌/◌, ◌%◌, ◌^◌, ◌<◌, ◌≡◌, ◌==◌, if◌then◌else◌}
use Rattle.lst_bits.specs.declared.starts.Start.{Start}
use Rattle.lst_bits.specs.declared.starts.Start.TheVariants.{Empty, By, At}
use Rattle.lst_bits.specs.Names.{name_of, session_of, number_of}
use Rattle.lst_bits.specs.Packing.{IsPacking}

-- 0 where nothing is stored, odd for a transaction, even for a time
abbrev pub start_word : Start → ℕ
start_word Empty = 0
start_word (By session number) = 1 + 2 * name_of session number
start_word (At time) = 2 * time

abbrev pub start_of : ℕ → Start
start_of word =
    if word % 2 == 1
    then By (session_of (word / 2)) (number_of (word / 2))
    else (if word == 0 then Empty else At (word / 2))

-- the start fits its word
abbrev pub FitsStart : Start → Type 0
FitsStart Empty = Unit {0}
FitsStart (By session number) = (session < 16) × (number < 2 ^ 32)
FitsStart (At time) = time < 2 ^ 63

-- a session is below 16, and a time is at least 1
abbrev pub IsStart : Start → Type 0
IsStart Empty = Unit {0}
IsStart (By session number) = (session < 16) × (number < 2 ^ 32)
IsStart (At time) = (0 < time) × (time < 2 ^ 63)

-- the word of some start: every even word, and every odd one that names a transaction
abbrev pub IsStartWord : ℕ → Type 0
IsStartWord word = (word < 2 ^ 64) × (word % 2 ≡ 1 → word < 2 ^ 37)

abbrev pub StartsArePacked : Type 0
StartsArePacked = IsPacking IsStart IsStartWord start_word start_of
