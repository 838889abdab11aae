-- The table that the commits of a script make.
use Rattle.std.specs.Prelude.{◌≡◌, ℕ, ◌*◌, ◌≤◌, List, true, length}
use Rattle.std.specs.List.{AllByRecursion}
use Rattle.lst_layout.specs.Limits.{IsValid}
use Rattle.lst_layout.specs.declared.limits.Limits.{Limits}
use Rattle.lst_model.specs.declared.lines.Line.{Line}
use Rattle.lst_model.specs.Histories.{table_at}
use Rattle.lst_model.specs.Tables.{Rows, scan_of, count_of}
use Rattle.lst_names.specs.Names.{are_names}
use Rattle.lst_csv.specs.Laws.{IsRow}
use Rattle.lst_machine.specs.Machine.{state_after}
use Rattle.lst_machine.specs.State.{Store, opening}
use Rattle.lst_script.specs.declared.scripts.Named.{Named}
use Rattle.lst_script.specs.Scripts.{IsNamed}

-- the store part of the machine behind a script's last line
abbrev pub store_behind : Limits → List Line → Store
store_behind limits script = (state_after limits opening script).store

-- the table that all its commits make
abbrev pub last_table : Limits → List Line → Rows
last_table limits script = table_at (store_behind limits script).history (length (store_behind limits script).history)

-- the columns have names, each row is a key and a cell for each of them, and there are 256 rows at most for each range
pub record IsDumped (limits : Limits) (names : List (List ℕ)) (table : Rows) : Type 0 where
  pub named : are_names limits.columns names ≡ true
  pub few : count_of table ≤ 256 * limits.ranges
  pub rows : AllByRecursion (IsRow limits.columns) (scan_of table)

-- the commits of a script that was read make such a table
abbrev pub DumpsAreTables : Type 0
DumpsAreTables = (limits : Limits) (input : List ℕ) (named : Named) → IsValid limits → IsNamed limits input named → IsDumped limits named.names (last_table limits named.script)
