-- What a clause sees of a seat, and how its numbers are its view's.
use Rattle.std.specs.Prelude.{◌≡◌, ℕ, ◌<◌, List, true, length, slice_index_or}
use Rattle.atomic_table.specs.Seated.{TableId}
use Rattle.lst_core_state.specs.declared.numbers.Numbers.{Numbers}
use Rattle.lst_core_state.specs.Numbers.{numbers_of}
use Rattle.lst_rule.specs.declared.view.View.{View}
use Rattle.lst_rule.specs.Rule.{knows, hosts}
use Rattle.lst_rule.specs.Learned.{Possible}

-- which table a seat is of, and what it knows; a note's seat has how many commits it tells of
pub record Sitting : Type 0 where
  pub table : TableId
  pub view : View
  pub note_time : ℕ

abbrev pub told : View → ℕ → Numbers
told v s = numbers_of (knows v s)

-- the view is possible, and the numbers are the view's
pub record Tells (v : View) (numbers : List Numbers) : Type 0 where
  pub possible : Possible v
  pub all : (s : ℕ) → hosts v s ≡ true → s < length numbers
  pub is : (s : ℕ) → hosts v s ≡ true → slice_index_or numbers s (told v s) ≡ told v s
