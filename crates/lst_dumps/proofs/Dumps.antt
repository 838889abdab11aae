-- The commits of a script make a table: each write that the machine has accepted or committed is of a key that has a record, and fits the table.
use Rattle.std.proofs.Common.{◌≡◌, ℕ, zero, suc, ◌*◌, ◌<◌, ◌≤◌, ◌^◌, Bool, true, false, cond, not, List, [], ◌∷◌, ◌++◌, length, refl, sym, ap, ◌∙◌, subst, arith, length-append, eq-eqb}
use Rattle.std.proofs.lemmas.Bool.{leb-false, eqb-true}
use Rattle.std.proofs.ByRecursion.{All-append}
use Rattle.std.specs.Prelude.{Option, Some, None, IfSome, is_some, is_none, nat_lt, nat_le, ◌==◌, ◌&&◌, ◌||◌}
use Rattle.std.specs.List.{AllByRecursion}
use mathlib.Core.Logic.{dite}
use native.Mathlib.Decide.{ℕ_discrete}
use Rattle.lst_layout.specs.declared.limits.Limits.{Limits}
use Rattle.lst_model.specs.declared.acts.Act.{Act}
use Rattle.lst_model.specs.declared.acts.Act.TheVariants.{Put, Set, Del}
use Rattle.lst_model.specs.declared.acts.Write.{Write}
use Rattle.lst_model.specs.declared.commits.Commit.{Commit}
use Rattle.lst_model.specs.declared.lines.Line.{Line}
use Rattle.lst_model.specs.declared.lines.Line.TheVariants as lines
use Rattle.lst_model.specs.declared.lines.Call.{Call}
use Rattle.lst_model.specs.declared.lines.Call.TheVariants.{Begin, AsOf, Get, Insert, Update, Delete, Sum, Count, Scan, Find, Commit as CommitCall, Abort}
use Rattle.lst_model.specs.declared.replies.Cause.{Cause}
use Rattle.lst_model.specs.declared.replies.Cause.TheVariants.{ReadOnly, Missing, TableFull, TailFull}
use Rattle.lst_model.specs.Cells.{Cell}
use Rattle.lst_model.specs.Tables.{Rows, row_of, scan_of}
use Rattle.lst_model.specs.Histories.{joined}
use Rattle.lst_machine.specs.State.{Accepted, Opened, State, Store, opening, opening_store}
use Rattle.lst_machine.specs.Writes.{put, place_of, is_placed, with_key, range_of, conflict_of, accepted_below, gathered, own_writes, sight_of}
use Rattle.lst_machine.specs.Calls.{first_of, where_true, begin_refusal, as_of_refusal, opened_unless, with_placed, with_accepted, with_closed, with_commit, accepted_unless, placed_unless, early_insert_refusal, late_insert_refusal, change_refusal, is_range_full, after_insert, after_change, after_commit, after_abort, store_after}
use Rattle.lst_machine.specs.Machine.{next, state_after}
use Rattle.lst_machine.proofs.Places.{next as next_place, place-cons}
use Rattle.lst_machine.proofs.Acting.{all_map, all_push, put_here, put_else}
use Rattle.lst_replies.specs.declared.states.Transaction.{Transaction}
use Rattle.lst_replies.specs.ReportTexts.{CellFits}
use Rattle.lst_report.proofs.Numbers.{ActFits, CallHolds, LineHolds, script_holds}
use Rattle.lst_report.proofs.Opened.{is_among, StandsAt, WriteHolds, row_stands}
use Rattle.lst_report.proofs.Tabled.{entries_stand, few_rows}
use Rattle.lst_csv.specs.Laws.{IsCell64, IsRow}
use Rattle.lst_script.specs.Texts.{text_lines}
use Rattle.lst_script.proofs.Migrated.{ordered}
use Rattle.lst_dumps.specs.Dumps.{store_behind, last_table, DumpsAreTables}

-- ---- keys that have a record

clash : {A : Type 0} (b : Bool) → b ≡ true → b ≡ false → A
clash b e f = let no : true ≡ false = sym e ∙ f in absurd (cc)

some_next : (o : Option ℕ) → is_some (next_place o) ≡ true → is_some o ≡ true
some_next None is = absurd (cc)
some_next (Some place) is = refl

placed_among : (keys : List ℕ) (key : ℕ) → is_placed keys key ≡ true → is_among keys key ≡ true
placed_among [] key is = absurd (cc)
placed_among (k ∷ keys) key is = by (k == key) refl (key == k) refl (placed_among keys key) (sym (ap is_some (place-cons k keys key)) ∙ is)
  where
    by : (one : Bool) → (k == key) ≡ one → (other : Bool) → (key == k) ≡ other → (is_placed keys key ≡ true → is_among keys key ≡ true)
        → is_some (cond one (Some 0) (next_place (place_of keys key))) ≡ true → (other || is_among keys key) ≡ true
    by one e true f later some = refl
    by true e false f later some = clash (key == k) (eq-eqb key k (sym (eqb-true k key e))) f
    by false e false f later some = later (some_next (place_of keys key) some)

among_more : (keys : List ℕ) (more key : ℕ) → is_among keys key ≡ true → is_among (keys ++ more ∷ []) key ≡ true
among_more [] more key is = absurd (cc)
among_more (k ∷ keys) more key is = by (key == k) is (among_more keys more key)
  where
    by : (here : Bool) → (here || is_among keys key) ≡ true → (is_among keys key ≡ true → is_among (keys ++ more ∷ []) key ≡ true) → (here || is_among (keys ++ more ∷ []) key) ≡ true
    by true is later = refl
    by false is later = later is

among_last : (keys : List ℕ) (key : ℕ) → is_among (keys ++ key ∷ []) key ≡ true
among_last [] key = rw (eq-eqb key key refl) refl
among_last (k ∷ keys) key = by (key == k) (among_last keys key)
  where
    by : (here : Bool) → is_among (keys ++ key ∷ []) key ≡ true → (here || is_among (keys ++ key ∷ []) key) ≡ true
    by true later = refl
    by false later = later

key_stays : (keys : List ℕ) (more key : ℕ) → is_among keys key ≡ true → is_among (with_key keys more) key ≡ true
key_stays keys more key is = by (is_placed keys more)
  where
    by : (b : Bool) → is_among (cond b keys (keys ++ more ∷ [])) key ≡ true
    by true = is
    by false = among_more keys more key is

key_there : (keys : List ℕ) (key : ℕ) → is_among (with_key keys key) key ≡ true
key_there keys key = by (is_placed keys key) refl
  where
    by : (b : Bool) → is_placed keys key ≡ b → is_among (cond b keys (keys ++ key ∷ [])) key ≡ true
    by true is = placed_among keys key is
    by false is = among_last keys key

-- ---- the writes of a transaction are accepted ones

module _ (P : Write → Type 0) where
  joined_hold : (writes : List Write) (new : Write) → AllByRecursion P writes → P new → AllByRecursion P (joined writes new)
  joined_hold [] new hold one = (one, tt)
  joined_hold (write ∷ writes) new hold one = by (nat_lt new.key write.key) (joined_hold writes new hold.1 one)
    where
      by : (low : Bool) → AllByRecursion P (joined writes new) → AllByRecursion P (cond low (new ∷ write ∷ writes) (write ∷ joined writes new))
      by true behind = (one, hold)
      by false behind = (hold.0, behind)

  gathered_hold : (s n : ℕ) (writes : List Write) (xs : List Accepted) → AllByRecursion P writes → AllByRecursion (λ (a : Accepted). P a.write) xs → AllByRecursion P (gathered s n writes xs)
  gathered_hold s n writes [] hold all = hold
  gathered_hold s n writes (a ∷ xs) hold all = gathered_hold s n (cond (a.session == s && a.number == n) (joined writes a.write) writes) xs (by (a.session == s && a.number == n)) all.1
    where
      by : (b : Bool) → AllByRecursion P (cond b (joined writes a.write) writes)
      by true = joined_hold writes a.write hold all.0
      by false = hold

  below_hold : (accepted : ℕ → List Accepted) (ranges : ℕ) → ((range : ℕ) → AllByRecursion (λ (a : Accepted). P a.write) (accepted range)) → AllByRecursion (λ (a : Accepted). P a.write) (accepted_below accepted ranges)
  below_hold accepted zero all = tt
  below_hold accepted (suc range) all = All-append (λ (a : Accepted). P a.write) (accepted_below accepted range) (accepted range) (below_hold accepted range all) (all range)

-- ---- what holds of a store

-- what was accepted and what was committed is of keys that have a record, and fits the table
record Holds (limits : Limits) (store : Store) : Type 0 where
  room : length store.placed ≤ 256 * limits.ranges
  history : AllByRecursion (λ (c : Commit). AllByRecursion (WriteHolds limits.columns store.placed) c.writes) store.history
  accepted : (range : ℕ) → AllByRecursion (λ (a : Accepted). WriteHolds limits.columns store.placed a.write) (store.accepted range)

opening_holds : (limits : Limits) → Holds limits opening_store
opening_holds limits = record { room = omega arith; history = tt; accepted = λ range. tt }

-- ---- a begin and an end

module _ (limits : Limits) (store : Store) (s : ℕ) (is : Holds limits store) where
  opened_holds : (refusal : Option Cause) (time : ℕ) (read_only : Bool) → Holds limits (opened_unless refusal store s time read_only)
  opened_holds None time read_only = record { room = is.room; history = is.history; accepted = is.accepted }
  opened_holds (Some cause) time read_only = is

  closed_holds : Holds limits (with_closed store s)
  closed_holds = record { room = is.room; history = is.history; accepted = is.accepted }

  own_hold : AllByRecursion (WriteHolds limits.columns store.placed) (own_writes limits store s)
  own_hold =
      let P = WriteHolds limits.columns store.placed in
      gathered_hold P s (store.begins s) [] (accepted_below store.accepted limits.ranges) tt (below_hold P store.accepted limits.ranges is.accepted)

  committed_holds : (transaction : Opened) (writes : List Write) → AllByRecursion (WriteHolds limits.columns store.placed) writes → Holds limits (with_commit store s transaction writes)
  committed_holds transaction [] hold = closed_holds
  committed_holds transaction (w ∷ ws) hold =
      let c : Commit = record { session = s; number = store.begins s; begin = transaction.begin; writes = w ∷ ws } in
      record {
        room = is.room;
        history = all_push (λ (c : Commit). AllByRecursion (WriteHolds limits.columns store.placed) c.writes) store.history c is.history hold;
        accepted = is.accepted;
      }

  commit_holds : (o : Option Opened) → Holds limits (after_commit limits store s o)
  commit_holds None = is
  commit_holds (Some transaction) = committed_holds transaction (own_writes limits store s) own_hold

  abort_holds : (o : Option Opened) → Holds limits (after_abort store s o)
  abort_holds None = is
  abort_holds (Some transaction) = closed_holds

-- ---- a write

first_none : (cause : Option Cause) (causes : List (Option Cause)) → first_of (cause ∷ causes) ≡ None → (cause ≡ None) × (first_of causes ≡ None)
first_none None causes e = (refl, e)
first_none (Some cause) causes e = cc

unrefused : (b : Bool) (cause : Cause) → where_true b cause ≡ None → b ≡ false
unrefused true cause e = cc
unrefused false cause e = refl

double_not : (b : Bool) → not b ≡ false → b ≡ true
double_not true e = refl
double_not false e = absurd (cc)

accepted_holds : (limits : Limits) (store : Store) (s key : ℕ) (act : Act) → Holds limits store → is_among store.placed key ≡ true → (key < 2 ^ 64) × ActFits limits.columns act → Holds limits (with_accepted store s key act)
accepted_holds limits store s key act is among fits = record {
  room = is.room;
  history = is.history;
  accepted = λ r. dite (ℕ_discrete r range)
      (λ e. subst (λ (y : ℕ). Hold (put store.accepted range more y)) (sym e) (subst Hold (sym (put_here store.accepted range more)) (all_push (λ (a : Accepted). WriteHolds limits.columns store.placed a.write) (store.accepted range) made (is.accepted range) ((fits.0, among), fits.1))))
      (λ other. subst Hold (sym (put_else store.accepted range more r other)) (is.accepted r));
}
  where
    range : ℕ
    range = range_of store.placed key

    made : Accepted
    made = record { session = s; number = store.begins s; write = record { key = key; act = act } }

    more : List Accepted
    more = store.accepted range ++ made ∷ []

    Hold : List Accepted → Type 0
    Hold xs = AllByRecursion (λ (a : Accepted). WriteHolds limits.columns store.placed a.write) xs

placed_holds : (limits : Limits) (store : Store) (key : ℕ) → Holds limits store → (not (is_placed store.placed key) && nat_le (256 * limits.ranges) (length store.placed)) ≡ false → Holds limits (with_placed store key)
placed_holds limits store key is free = record {
  room = by (is_placed store.placed key) free;
  history = all_map (λ c hold. all_map stays c.writes hold) store.history is.history;
  accepted = λ r. all_map (λ a hold. stays a.write hold) (store.accepted r) (is.accepted r);
}
  where
    by : (b : Bool) → (not b && nat_le (256 * limits.ranges) (length store.placed)) ≡ false → length (cond b store.placed (store.placed ++ key ∷ [])) ≤ 256 * limits.ranges
    by true e = is.room
    by false e = let low = leb-false _ _ e in let more = length-append store.placed (key ∷ []) in omega (arith, low, more)

    stays : (w : Write) → WriteHolds limits.columns store.placed w → WriteHolds limits.columns (with_key store.placed key) w
    stays w hold = ((hold.0.0, key_stays store.placed key w.key hold.0.1), hold.1)

change_holds : (limits : Limits) (store : Store) (s key : ℕ) (act : Act) (o : Option Opened) → Holds limits store → (key < 2 ^ 64) × ActFits limits.columns act → Holds limits (after_change limits store s o key act)
change_holds limits store s key act None is fits = is
change_holds limits store s key act (Some transaction) is fits = by (change_refusal limits store s transaction key) refl
  where
    by : (refusal : Option Cause) → change_refusal limits store s transaction key ≡ refusal → Holds limits (accepted_unless refusal store s key act)
    by (Some cause) e = is
    by None e =
        let one = first_none (where_true transaction.read_only ReadOnly) (where_true (not (is_placed store.placed key)) Missing ∷ conflict_of store s transaction.begin key ∷ where_true (is_none (row_of (sight_of limits store s transaction.begin) key)) Missing ∷ where_true (is_range_full limits store key) TailFull ∷ []) e in
        let two = first_none (where_true (not (is_placed store.placed key)) Missing) (conflict_of store s transaction.begin key ∷ where_true (is_none (row_of (sight_of limits store s transaction.begin) key)) Missing ∷ where_true (is_range_full limits store key) TailFull ∷ []) one.1 in
        accepted_holds limits store s key act is (placed_among store.placed key (double_not (is_placed store.placed key) (unrefused (not (is_placed store.placed key)) Missing two.0))) fits

insert_holds : (limits : Limits) (store : Store) (s key : ℕ) (act : Act) (o : Option Opened) → Holds limits store → (key < 2 ^ 64) × ActFits limits.columns act → Holds limits (after_insert limits store s o key act)
insert_holds limits store s key act None is fits = is
insert_holds limits store s key act (Some transaction) is fits = by (early_insert_refusal limits store transaction key) refl
  where
    late : Option Cause
    late = late_insert_refusal limits (with_placed store key) s transaction key

    by_late : Holds limits (with_placed store key) → (refusal : Option Cause) → Holds limits (accepted_unless refusal (with_placed store key) s key act)
    by_late wide None = accepted_holds limits (with_placed store key) s key act wide (key_there store.placed key) fits
    by_late wide (Some cause) = wide

    by : (early : Option Cause) → early_insert_refusal limits store transaction key ≡ early → Holds limits (accepted_unless (first_of (early ∷ late ∷ [])) (placed_unless early store key) s key act)
    by (Some cause) e = is
    by None e =
        let one = first_none (where_true transaction.read_only ReadOnly) (where_true (not (is_placed store.placed key) && nat_le (256 * limits.ranges) (length store.placed)) TableFull ∷ []) e in
        let two = first_none (where_true (not (is_placed store.placed key) && nat_le (256 * limits.ranges) (length store.placed)) TableFull) [] one.1 in
        by_late (placed_holds limits store key is (unrefused (not (is_placed store.placed key) && nat_le (256 * limits.ranges) (length store.placed)) TableFull two.0)) (first_of (late ∷ []))

-- ---- lines

call_keeps : (limits : Limits) (store : Store) (s : ℕ) (call : Call) → CallHolds limits s call → Holds limits store → Holds limits (store_after limits store s call)
call_keeps limits store s Begin call is = opened_holds limits store s is (begin_refusal limits store s) (length store.history) false
call_keeps limits store s (AsOf time) call is = opened_holds limits store s is (as_of_refusal limits store s time) time true
call_keeps limits store s (Get key) call is = is
call_keeps limits store s (Insert key row) call is = insert_holds limits store s key (Put row) (store.opened s) is (call.write (record { key = key; act = Put row }) refl)
call_keeps limits store s (Update key patch) call is = change_holds limits store s key (Set patch) (store.opened s) is (call.write (record { key = key; act = Set patch }) refl)
call_keeps limits store s (Delete key) call is = change_holds limits store s key Del (store.opened s) is (call.write (record { key = key; act = Del }) refl)
call_keeps limits store s (Sum column) call is = is
call_keeps limits store s Count call is = is
call_keeps limits store s Scan call is = is
call_keeps limits store s (Find column number) call is = is
call_keeps limits store s CommitCall call is = commit_holds limits store s is (store.opened s)
call_keeps limits store s Abort call is = abort_holds limits store s is (store.opened s)

line_keeps : (limits : Limits) (state : State) (line : Line) → LineHolds limits line → Holds limits state.store → Holds limits (next limits state line).store
line_keeps limits state lines.Phase line is = is
line_keeps limits state (lines.Merge range column) line is = is
line_keeps limits state (lines.Call session call) line is = call_keeps limits state.store session call line is

lines_keep : (limits : Limits) (state : State) (script : List Line) → AllByRecursion (LineHolds limits) script → Holds limits state.store → Holds limits (state_after limits state script).store
lines_keep limits state [] all is = is
lines_keep limits state (line ∷ script) all is = lines_keep limits (next limits state line) script all.1 (line_keeps limits state line all.0 is)

-- ---- the table

cell_is : (cell : Cell) → CellFits cell → IsCell64 cell
cell_is None fits = tt
cell_is (Some number) fits = fits

row_is : (columns : ℕ) (keys : List ℕ) (entry : ℕ × List Cell) → StandsAt columns keys entry.0 entry.1 → IsRow columns entry
row_is columns keys entry stands = record { key = stands.0.0; width = stands.1.0; cells = all_map cell_is entry.1 stands.1.1 }

pub dumps_are_tables : DumpsAreTables
dumps_are_tables limits input named valid is = record {
  named = ordered limits (text_lines input) named.names named.script valid.columns.1 is;
  few = omega (arith, few_rows limits.columns store.placed table stands, holds.room);
  rows = all_map (row_is limits.columns store.placed) (scan_of table) (entries_stand limits.columns store.placed table stands);
}
  where
    store : Store
    store = store_behind limits named.script

    table : Rows
    table = last_table limits named.script

    holds : Holds limits store
    holds = lines_keep limits opening named.script (script_holds limits valid (text_lines input) named.script (named.names, is)) (opening_holds limits)

    -- a transaction that sees all commits
    last : Transaction
    last = record { number = 0; begin = length store.history; read_only = false; writes = [] }

    stands : (key : ℕ) → IfSome (row_of table key) (StandsAt limits.columns store.placed key)
    stands = row_stands limits.columns store.placed store.history last holds.history tt
