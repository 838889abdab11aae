-- The name of a transaction, by which the log and start words tell it: its session and its number among those of the session.
use Rattle.std.specs.Prelude.{ℕ, ◌+◌, ◌*◌, ◌/◌, ◌%◌}

-- a session is below 16
abbrev pub name_of : ℕ → ℕ → ℕ
name_of session number = 16 * number + session

abbrev pub session_of : ℕ → ℕ
session_of name = name % 16

abbrev pub number_of : ℕ → ℕ
number_of name = name / 16
