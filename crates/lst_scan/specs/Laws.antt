-- Laws of parts of a table, and of the places that cut it.
use Rattle.std.specs.Prelude.{◌≡◌, ℕ, ◌+◌, ◌<◌, ◌≤◌, true, List, Option, Some, sum_by, unwrap_or}
use Rattle.std.specs.List.{Contains, range_with_len}
use Rattle.lst_model.specs.declared.acts.Act.{Act}
use Rattle.lst_model.specs.Cells.{Cell, holds_at}
use Rattle.lst_model.specs.Tables.{Rows, sum_of, row_of}
use Rattle.lst_core_state.specs.declared.known.Known.{Known}
use Rattle.lst_core_state.specs.Cells.{record_count}
use Rattle.lst_core_state.specs.State.{sight}
use Rattle.lst_rule.specs.declared.view.View.{View}
use Rattle.lst_rule.specs.Rule.{knows, hosts}
use Rattle.lst_rule.specs.Learned.{Possible}
use Rattle.lst_rule.specs.Copies.{Includes}
use Rattle.lst_rule.specs.Watching.{Watched}
use Rattle.lst_second.specs.Candidates.{puts_number}
use Rattle.lst_scan.specs.Scans.{table_seen, IsCellOn, Places, between}

-- the sum over a part is that over the pieces into which cuts, which never fall, divide it
abbrev pub PartsAddUp : Type 0
PartsAddUp = (place : ℕ → ℕ) (table : Rows) (column n : ℕ) (cut : ℕ → ℕ) → ((i : ℕ) → i < n → cut i ≤ cut (i + 1))
    → sum_of (between place (cut 0) (cut n) table) column ≡ sum_by (λ i. sum_of (between place (cut i) (cut (i + 1)) table) column) (range_with_len 0 n)

-- it is also the sum, record by record, of the cells that are seen there, where a record without a row adds nothing
abbrev pub RecordsAddUp : Type 0
RecordsAddUp = (v : View) (s low n column : ℕ) → Possible v → hosts v s ≡ true → (place : ℕ → ℕ) → Places (knows v s) place
    → (cell : ℕ → Option ℕ) → ((rec : ℕ) → low ≤ rec → rec < low + n → IsCellOn (knows v s) rec column (cell rec))
    → sum_of (between place low (low + n) (table_seen (knows v s))) column ≡ sum_by (λ rec. unwrap_or (cell rec) 0) (range_with_len low n)

-- a cell that is seen after looks is the one that would have been seen before them
abbrev pub CellsStay : Type 0
CellsStay = (v w : View) (s rec column : ℕ) (cell : Option ℕ) → Possible v → Possible w → hosts v s ≡ true → (knows v s).is_open ≡ true → Watched v w s → IsCellOn (knows w s) rec column cell → IsCellOn (knows v s) rec column cell

-- some places there always are, and by them the records of the store have the whole table
abbrev pub RowsHavePlaces : Type 0
RowsHavePlaces = (v : View) (s : ℕ) → Possible v → hosts v s ≡ true → (knows v s).is_open ≡ true
    → (place : ℕ → ℕ) × Places (knows v s) place × (between place 0 (record_count v.limits) (table_seen (knows v s)) ≡ table_seen (knows v s))

-- of the same table, two sessions have the same places, where one view has the facts of both
abbrev pub PlacesAgree : Type 0
PlacesAgree = (w : View) (s t : ℕ) (k j : Known) → Possible w → hosts w s ≡ true → hosts w t ≡ true → Includes (knows w s).facts k.facts → Includes (knows w t).facts j.facts → table_seen j ≡ table_seen k
    → (place other : ℕ → ℕ) → Places k place → Places j other → Places j place

-- a number in a row that is seen was put there by an act on its key that is seen
abbrev pub NumbersWerePut : Type 0
NumbersWerePut = (k : Known) (key column number : ℕ) (row : List Cell) → row_of (table_seen k) key ≡ Some row → holds_at column number row ≡ true → (act : Act) × Contains (sight k key) act × (puts_number column number act ≡ true)
