-- The pages of several columns, taken in hand one after the other.
use Rattle.std.specs.Prelude.{◌≡◌, ℕ, ◌<◌, ◌≤◌, List, [], ◌∷◌, false, length, slice_index_or}
use Rattle.lst_rule.specs.declared.view.View.{View}
use Rattle.lst_rule.specs.declared.store.Store.{Store}
use Rattle.lst_rule.specs.Rule.{knows}
use Rattle.lst_rule.specs.Seats.{Sitting}
use Rattle.lst_walk.specs.Readers.{IsReader}
use Rattle.lst_walk.specs.Packed.{Skims}
use Rattle.lst_walk.specs.Pages.{Takes}
use Rattle.lst_walk.specs.declared.pages.Entry.{Entry}

abbrev pub no_entry : Entry
no_entry = record { frame = 0; until = 0; is_present = false }

abbrev pub entry_at : List Entry → ℕ → Entry
entry_at entries column = slice_index_or entries column no_entry

-- no page tells anything
abbrev pub no_entries : List Entry
no_entries = no_entry ∷ no_entry ∷ no_entry ∷ no_entry ∷ no_entry ∷ no_entry ∷ no_entry ∷ no_entry ∷ []

-- from v to the seat, the session s took the pages of the columns below k, where it has a pin, and these are the entries
pub record TakesAll (store : Store) (v : View) (seat : Sitting) (s rec k : ℕ) (entries : List Entry) : Type 0 where
  pub reader : IsReader store seat s
  pub skims : Skims v seat.view s
  pub wide : length entries ≡ 8
  pub takes : 0 < (knows v s).pages.session.pin → (column : ℕ) → column < k → Takes v seat.view s rec column (entry_at entries column)
  pub none : (knows v s).pages.session.pin ≡ 0 → (column : ℕ) → column < k → (entry_at entries column).until ≡ 0

-- no entry of the first k tells of its column from above the number
pub record AreUntil (k last : ℕ) (entries : List Entry) : Type 0 where
  pub each : (column : ℕ) → column < k → (entry_at entries column).until ≤ last
