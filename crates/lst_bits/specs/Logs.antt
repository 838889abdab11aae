-- The log's word of a time: the transaction that committed then.
use Rattle.std.specs.Prelude.{ℕ, ◌+◌, ◌*◌, ◌/◌, ◌%◌, ◌^◌, ◌<◌, ◌≤◌, ◌==◌, if◌then◌else◌}
use Rattle.lst_bits.specs.declared.logs.Log.{Log}
use Rattle.lst_bits.specs.declared.logs.Log.TheVariants.{Empty, By}
use Rattle.lst_bits.specs.Names.{name_of, session_of, number_of}
use Rattle.lst_bits.specs.Packing.{IsPacking}

abbrev pub log_word : Log → ℕ
log_word Empty = 0
log_word (By session number) = name_of session number

abbrev pub log_of : ℕ → Log
log_of word = if word == 0 then Empty else By (session_of word) (number_of word)

-- the entry fits its word
abbrev pub FitsLog : Log → Type 0
FitsLog Empty = Unit {0}
FitsLog (By session number) = (session < 16) × (number < 2 ^ 32)

-- a session is below 16, and a transaction's number is at least 1
abbrev pub IsLog : Log → Type 0
IsLog Empty = Unit {0}
IsLog (By session number) = (session < 16) × (0 < number) × (number < 2 ^ 32)

-- the word of some entry: 0, or one that names a transaction
abbrev pub IsLogWord : ℕ → Type 0
IsLogWord word = (word < 2 ^ 36) × (0 < word → 16 ≤ word)

abbrev pub LogsArePacked : Type 0
LogsArePacked = IsPacking IsLog IsLogWord log_word log_of
