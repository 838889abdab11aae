-- The script of a table that was written is read as one transaction.
use Rattle.std.proofs.Common.{ℕ, List, [], ◌∷◌, ◌++◌, Some, None, map, sym, subst}
use Rattle.std.specs.Prelude.{All}
use Rattle.std.specs.List.{AllByRecursion}
use Rattle.std.proofs.lemmas.List.Elements.{All-nil, All-cons}
use Rattle.lst_layout.specs.Limits.{IsValid}
use Rattle.lst_layout.specs.declared.limits.Limits.{Limits}
use Rattle.lst_model.specs.Cells.{Cell}
use Rattle.lst_model.specs.Tables.{Rows, scan_of}
use Rattle.lst_model.specs.declared.lines.Line.{Line}
use Rattle.lst_model.specs.declared.lines.Line.TheVariants as lines
use Rattle.lst_model.specs.declared.lines.Call.TheVariants.{Begin, Commit}
use Rattle.lst_script.specs.Columns.{named}
use Rattle.lst_script.specs.Printed.{IsCellWord, IsSayable}
use Rattle.lst_script.specs.Scripts.{IsNamed}
use Rattle.lst_script.proofs.Printed.{named_printed_again}
use Rattle.lst_csv.specs.Importing.{insert_of, transaction_of}
use Rattle.lst_csv.specs.Laws.{IsCell64, IsRow, ScriptIsRead, AnyScriptIsRead}
use Rattle.lst_csv.specs.Tables.{names_of, rows_of}
use Rattle.lst_csv.proofs.Faultless.{faultless_fits}
use Rattle.lst_csv.proofs.TableAgain.{table_again}

module _ (limits : Limits) (names : List (List ℕ)) (valid : IsValid limits) where
  cells : (row : List Cell) → AllByRecursion IsCell64 row → All (IsCellWord (named names)) row
  cells [] all = All-nil (IsCellWord (named names))
  cells (None ∷ row) all = All-cons (IsCellWord (named names)) None row tt (cells row all.1)
  cells (Some number ∷ row) all = All-cons (IsCellWord (named names)) (Some number) row all.0 (cells row all.1)

  abbrev Say : Line → Type 0
  Say line = IsSayable limits (named names) line

  insert : (row : ℕ × List Cell) → IsRow limits.columns row → Say (insert_of row)
  insert row is = record { fits = (valid.sessions.0, is.width); numbers = (is.key, cells row.1 is.cells) }

  behind : (rows : List (ℕ × List Cell)) → AllByRecursion (IsRow limits.columns) rows → All Say (map insert_of rows ++ (lines.Call 0 Commit ∷ []))
  behind [] all = All-cons Say (lines.Call 0 Commit) [] (record { fits = (valid.sessions.0, tt); numbers = tt }) (All-nil Say)
  behind (row ∷ rows) all = All-cons Say (insert_of row) (map insert_of rows ++ (lines.Call 0 Commit ∷ [])) (insert row all.0) (behind rows all.1)

  sayable : (rows : List (ℕ × List Cell)) → AllByRecursion (IsRow limits.columns) rows → All Say (transaction_of rows)
  sayable rows all = All-cons Say (lines.Call 0 Begin) (map insert_of rows ++ (lines.Call 0 Commit ∷ [])) (record { fits = (valid.sessions.0, tt); numbers = tt }) (behind rows all)

pub script_read : (limits : Limits) (names : List (List ℕ)) (table : Rows) → ScriptIsRead limits names table
script_read limits names table valid are few all =
    let script = transaction_of (scan_of table) in
    subst (λ (text : List ℕ). IsNamed limits text (record { names = names; script = script })) (sym (table_again limits.columns names table are few all).script)
    (named_printed_again limits names script valid are (sayable limits names valid (scan_of table) all))

pub any_script_read : (limits : Limits) (records : List (List (List ℕ))) → AnyScriptIsRead limits records
any_script_read limits records valid faultless =
    let names = names_of records in
    let rows = rows_of records in
    let fits = faultless_fits limits.columns records faultless in
    named_printed_again limits names (transaction_of rows) valid fits.0 (sayable limits names valid rows fits.1)
