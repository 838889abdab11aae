-- A table that is dumped, imported, and dumped again: what the machine makes of its script.
use Rattle.std.proofs.Common.{lt_of_not-le, ◌≡◌, ℕ, ◌+◌, ◌*◌, ◌<◌, ◌≤◌, Bool, true, false, ◌&&◌, List, [], ◌∷◌, ◌++◌, length, map, None, Ok, refl, sym, ap, ◌∙◌, subst, inr, arith}
use Rattle.std.specs.Prelude.{T}
use Rattle.std.specs.Ordering.{nat_cmp, is_lt}
use Rattle.std.specs.declared.cmp.Ordering.{Ordering}
use Rattle.std.specs.declared.cmp.Ordering.TheVariants.{Equal, Greater}
use Rattle.std.specs.Cmp.{nat_cmp_is}
use Rattle.std.specs.FinMap.{entries_sorted, is_sorted, len-entries}
use Rattle.std.specs.FinMap.Entries.{below_all}
use Rattle.std.proofs.lemmas.List.{length-map}
use mathlib.Core.Logic.{dite}
use native.Mathlib.Decide.{ℕ_discrete}
use Rattle.lst_layout.specs.Limits.{IsValid}
use Rattle.lst_layout.specs.declared.limits.Limits.{Limits}
use Rattle.lst_model.specs.declared.acts.Write.{Write}
use Rattle.lst_model.specs.declared.lines.Line.TheVariants as lines
use Rattle.lst_model.specs.declared.lines.Call.TheVariants.{Begin, Commit as CommitCall}
use Rattle.lst_model.specs.Cells.{Cell}
use Rattle.lst_model.specs.Histories.{table_at}
use Rattle.lst_model.specs.Tables.{Rows, no_rows, all_applied, scan_of, count_of}
use Rattle.lst_machine.specs.State.{State, opening}
use Rattle.lst_machine.specs.Calls.{store_after}
use Rattle.lst_machine.specs.Machine.{next, state_after}
use Rattle.lst_csv.specs.Importing.{insert_of, transaction_of}
use Rattle.lst_csv.specs.Laws.{put_of}
use Rattle.lst_csv.specs.Records.{records_of}
use Rattle.lst_csv.specs.Tables.{table_fault, names_of, rows_of}
use Rattle.lst_csv.specs.Writing.{history_text, table_text}
use Rattle.lst_csv.proofs.ScriptAgain.{any_script_read}
use Rattle.lst_csv.proofs.TableAgain.{made_whole, table_again}
use Rattle.lst_replay_laws.specs.Again.{after_writes}
use Rattle.lst_replay_laws.specs.Puts.{ArePutsFrom, HasRoomForRows, after_one, one_commit, PutsAreCommitted}
use Rattle.lst_script.specs.declared.scripts.Named.{Named}
use Rattle.lst_script.specs.Scripts.{IsNamed, AnswersUnlessMemory}
use Rattle.lst_script.proofs.Versions.{answers_named}
use Rattle.lst_command.specs.Owed.{OwesTable, dump_of}
use Rattle.lst_dumps.specs.Dumps.{DumpsAreTables, IsDumped, last_table}
use Rattle.lst_command.specs.TablesAgain.{ComesBack, DumpsComeBack, ImportIsScript, TablesComeBack}

-- ---- the machine's store behind the script

lines_after : (limits : Limits) (state : State) (rows : List (ℕ × List Cell)) → (state_after limits state (map insert_of rows ++ (lines.Call 0 CommitCall ∷ []))).store ≡ store_after limits (after_writes limits state.store 0 (map put_of rows)) 0 CommitCall
lines_after limits state [] = refl
lines_after limits state (row ∷ rows) = lines_after limits (next limits state (insert_of row)) rows

script_after : (limits : Limits) (rows : List (ℕ × List Cell)) → (state_after limits opening (transaction_of rows)).store ≡ after_one limits 0 (map put_of rows)
script_after limits rows = lines_after limits (next limits opening (lines.Call 0 Begin)) rows

-- ---- the rows of a table, as puts

first_of_both : (a b : Bool) → T (a && b) → T a
first_of_both true b p = tt
first_of_both false b p = absurd p

second_of_both : (a b : Bool) → T (a && b) → T b
second_of_both true b p = p
second_of_both false b p = absurd p

key_below : (x y : ℕ) → T (is_lt (nat_cmp x y)) → x < y
key_below x y below = lt_of_not-le (λ high. dite (ℕ_discrete x y)
    (λ same. subst (λ (o : Ordering). T (is_lt o)) (sym (nat_cmp_is x y Equal same)) below)
    (λ other. subst (λ (o : Ordering). T (is_lt o)) (sym (nat_cmp_is x y Greater (lt_of_not-le (λ low. other (omega (arith, low, high)))))) below))

abbrev StartsFrom : ℕ → List (ℕ × List Cell) → Type 0
StartsFrom low [] = Unit {0}
StartsFrom low (row ∷ rows) = low ≤ row.0

starts_above : (low : ℕ) (rows : List (ℕ × List Cell)) → T (below_all nat_cmp low rows) → StartsFrom (low + 1) rows
starts_above low [] below = tt
starts_above low (row ∷ rows) below = let above = key_below low row.0 (first_of_both (is_lt (nat_cmp low row.0)) (below_all nat_cmp low rows) below) in omega (arith, above)

are_puts : (low : ℕ) (rows : List (ℕ × List Cell)) → StartsFrom low rows → T (is_sorted nat_cmp rows) → ArePutsFrom low (map put_of rows)
are_puts low [] starts sorted = tt
are_puts low (row ∷ rows) starts sorted = (
  tt,
  starts,
  are_puts (row.0 + 1) rows (starts_above row.0 rows (first_of_both (below_all nat_cmp row.0 rows) (is_sorted nat_cmp rows) sorted)) (second_of_both (below_all nat_cmp row.0 rows) (is_sorted nat_cmp rows) sorted),
)

starts_anywhere : (rows : List (ℕ × List Cell)) → StartsFrom 0 rows
starts_anywhere [] = tt
starts_anywhere (row ∷ rows) = omega arith

-- ---- the table of one commit

table_of_one : (writes : List Write) → table_at (one_commit 0 writes) (length (one_commit 0 writes)) ≡ all_applied no_rows writes
table_of_one [] = refl
table_of_one (write ∷ writes) = refl

dumped_again : PutsAreCommitted → (limits : Limits) (names : List (List ℕ)) (table : Rows) → IsValid limits → HasRoomForRows limits (count_of table) → dump_of limits names (transaction_of (scan_of table)) ≡ table_text names table
dumped_again committed limits names table valid room =
    let rows = scan_of table in
    let count : length (map put_of rows) ≡ count_of table = length-map rows put_of ∙ sym (len-entries table) in
    let history : (state_after limits opening (transaction_of rows)).store.history ≡ one_commit 0 (map put_of rows) =
    ap (λ store. store.history) (script_after limits rows)
    ∙ committed limits 0 (map put_of rows) valid.sessions.0 valid.txns.0 (are_puts 0 rows (starts_anywhere rows) (entries_sorted table)) (subst (HasRoomForRows limits) (sym count) room) in
    ap (history_text names) history
    ∙ ap (table_text names) (table_of_one (map put_of rows) ∙ made_whole table)

-- ---- what an import owes

import_is_named : (importing limits : Limits) (input text : List ℕ) → IsValid limits → importing.columns ≡ limits.columns → OwesTable importing input text
    → IsNamed limits text (record { names = names_of (records_of input); script = transaction_of (rows_of (records_of input)) })
import_is_named importing limits input text valid same owed =
    let records = records_of input in
    subst (λ (bytes : List ℕ). IsNamed limits bytes (record { names = names_of records; script = transaction_of (rows_of records) })) (sym owed.is_text)
    (any_script_read limits records valid (subst (λ (columns : ℕ). table_fault columns records ≡ None) same owed.faultless))

pub import_is_script : ImportIsScript
import_is_script importing limits input text valid same owed =
    let records = records_of input in (transaction_of (rows_of records), (names_of records, import_is_named importing limits input text valid same owed))

-- a text is one script, with one list of names
one_named : (limits : Limits) (text : List ℕ) (a b : Named) → IsNamed limits text a → IsNamed limits text b → a ≡ b
one_named limits text a b is_a is_b = let same : AnswersUnlessMemory (Ok a) (Ok b) = answers_named limits text (Ok a) is_a tt b is_b in cc

-- ---- there and back

pub tables_come_back : PutsAreCommitted → TablesComeBack
tables_come_back committed importing limits names table text valid same is =
    let again = table_again limits.columns names table is.named is.few is.rows in
    let records = records_of (table_text names table) in
    let faultless : table_fault importing.columns (records_of text) ≡ None = ap (λ (bytes : List ℕ). table_fault importing.columns (records_of bytes)) is.is_text ∙ ap (λ (columns : ℕ). table_fault columns records) same ∙ again.faultless in
    let found : Named = record { names = names; script = transaction_of (scan_of table) } in
    record {
      taken = record { faultless = faultless; is_text = refl };
      same = λ room script later left taken owed.
          let read : IsNamed limits script (record { names = names_of (records_of text); script = transaction_of (rows_of (records_of text)) }) = import_is_named importing limits text script valid same taken in
          let named : (record { names = names_of (records_of text); script = transaction_of (rows_of (records_of text)) }) ≡ found = (λ i. record {
            names = (ap (λ (bytes : List ℕ). names_of (records_of bytes)) is.is_text ∙ again.names_are) i;
            script = (ap (λ (bytes : List ℕ). transaction_of (rows_of (records_of bytes))) is.is_text ∙ ap transaction_of again.rows_are) i;
          }) in
          let one : owed.named ≡ found = one_named limits script owed.named found owed.is_named (subst (IsNamed limits script) named read) in
          owed.is_text ∙ ap (λ (n : Named). dump_of limits n.names n.script) one ∙ dumped_again committed limits names table valid room ∙ sym is.is_text;
    }

-- ---- what any dump owes

few_rows : (limits : Limits) (rows : ℕ) → IsValid limits → rows ≤ 256 * limits.ranges → rows ≤ 16384
few_rows limits rows valid few = let most = valid.ranges.1 in omega (arith, few, most)

pub dumps_come_back : PutsAreCommitted → DumpsAreTables → DumpsComeBack
dumps_come_back committed tables importing limits input text left valid same owed =
    let table = last_table limits owed.named.script in
    let is : IsDumped limits owed.named.names table = tables limits input owed.named valid owed.is_named in
    let back : ComesBack importing limits table text = tables_come_back committed importing limits owed.named.names table text valid same
    (record { named = is.named; few = few_rows limits (count_of table) valid is.few; rows = is.rows; is_text = owed.is_text }) in
    record { taken = back.taken; same = λ tails. back.same (record { keys = is.few; tails = inr tails }) }
