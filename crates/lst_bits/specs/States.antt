-- The state word of a transaction.
use Rattle.std.specs.Prelude.{ℕ, ◌+◌, ◌-◌, ◌^◌, ◌<◌, ◌==◌, if◌then◌else◌}
use Rattle.lst_bits.specs.declared.states.State.{State}
use Rattle.lst_bits.specs.declared.states.State.TheVariants.{Active, Closed, Committed}
use Rattle.lst_bits.specs.Packing.{IsPacking}

abbrev pub state_word : State → ℕ
state_word Active = 0
state_word Closed = 1
state_word (Committed time) = time + 1

abbrev pub state_of : ℕ → State
state_of word = if word == 0 then Active else (if word == 1 then Closed else Committed (word - 1))

-- a commit's time is at least 1
abbrev pub IsState : State → Type 0
IsState Active = Unit {0}
IsState Closed = Unit {0}
IsState (Committed time) = (0 < time) × (time + 1 < 2 ^ 64)

-- every word is the word of some state
abbrev pub IsStateWord : ℕ → Type 0
IsStateWord word = word < 2 ^ 64

abbrev pub StatesArePacked : Type 0
StatesArePacked = IsPacking IsState IsStateWord state_word state_of
