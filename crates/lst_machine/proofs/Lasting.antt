-- After every script the machine's history is sound.
use Rattle.std.proofs.Common.{◌≡◌, ℕ, ◌≤◌, Bool, true, false, not, List, [], ◌∷◌, ◌++◌, length, take, refl, sym, ap, ◌∙◌, subst, arith}
use Rattle.std.proofs.lemmas.Bool.{ltb-false}
use Rattle.std.specs.Prelude.{Option, Some, None, is_some, is_none, nat_lt, nat_le}
use Rattle.lst_layout.specs.declared.limits.Limits.{Limits}
use Rattle.lst_model.specs.declared.acts.Act.{Act}
use Rattle.lst_model.specs.declared.acts.Act.TheVariants.{Put, Set, Del}
use Rattle.lst_model.specs.declared.acts.Write.{Write}
use Rattle.lst_model.specs.declared.lines.Line.{Line}
use Rattle.lst_model.specs.declared.lines.Line.TheVariants as line
use Rattle.lst_model.specs.declared.lines.Call.TheVariants.{Begin, AsOf, Get, Insert, Update, Delete, Sum, Count, Scan, Find, Commit, Abort}
use Rattle.lst_model.specs.declared.lines.Call.{Call}
use Rattle.lst_model.specs.declared.replies.Cause.{Cause}
use Rattle.lst_model.specs.declared.replies.Cause.TheVariants.{Active, Spent, Future, ReadOnly, Missing, Exists, TailFull}
use Rattle.lst_model.specs.Cells.{Cell}
use Rattle.lst_model.specs.Tables.{row_of}
use Rattle.lst_model.specs.Histories.{row_from, acts_on, all_acts_on}
use Rattle.lst_model.specs.Soundness.{Fits}
use Rattle.lst_model.proofs.Folds.{get_snapshot}
use Rattle.lst_machine.specs.State.{Opened, Store, State, opening}
use Rattle.lst_machine.specs.Writes.{is_placed, conflict_of, accepted_below, own_writes, sight_of}
use Rattle.lst_machine.specs.Calls.{first_of, where_true, begin_refusal, as_of_refusal, with_placed, accepted_unless, placed_unless, early_insert_refusal, late_insert_refusal, change_refusal, is_range_full, opened_unless, with_commit, after_abort, after_insert, after_change, after_commit, store_after}
use Rattle.lst_machine.specs.Machine.{next, state_after}
use Rattle.lst_machine.specs.Histories.{MachineIsSound}
use Rattle.lst_machine.proofs.Places.{key_placed}
use Rattle.lst_machine.proofs.Acting.{acts_by, gathered_acts}
use Rattle.lst_machine.proofs.Sounding.{IsSoundStore, opening_sound, placed_sound, begun_sound, accepted_sound, closed_sound, committed_sound}

-- ---- what a call that isn't refused says

first_none : (cause : Option Cause) (causes : List (Option Cause)) → first_of (cause ∷ causes) ≡ None → (cause ≡ None) × (first_of causes ≡ None)
first_none None causes e = (refl, e)
first_none (Some cause) causes e = cc

unrefused : (b : Bool) (cause : Cause) → where_true b cause ≡ None → b ≡ false
unrefused true cause e = cc
unrefused false cause e = refl

closed_option : (o : Option Opened) → is_some o ≡ false → o ≡ None
closed_option None e = refl
closed_option (Some t) e = cc

module _ (limits : Limits) (store : Store) (s : ℕ) where
  none_open : begin_refusal limits store s ≡ None → store.opened s ≡ None
  none_open e = closed_option (store.opened s) (unrefused (is_some (store.opened s)) Active (first_none (where_true (is_some (store.opened s)) Active) (where_true (nat_le limits.txns (store.begins s)) Spent ∷ []) e).0)

  begun_at : (time : ℕ) → as_of_refusal limits store s time ≡ None → (begin_refusal limits store s ≡ None) × (time ≤ length store.history)
  begun_at time e =
      let first = first_none (begin_refusal limits store s) (where_true (nat_lt (length store.history) time) (Future (length store.history)) ∷ []) e in
      let second = first_none (where_true (nat_lt (length store.history) time) (Future (length store.history))) [] first.1 in
      (first.0, ltb-false _ _ (unrefused (nat_lt (length store.history) time) (Future (length store.history)) second.0))

absent_fits : (row : Option (List Cell)) (cells : List Cell) → is_some row ≡ false → Fits row (Put cells)
absent_fits None cells e = tt
absent_fits (Some old) cells e = cc

present_fits : (row : Option (List Cell)) (patch : List (Option Cell)) → is_none row ≡ false → Fits row (Set patch)
present_fits None patch e = cc
present_fits (Some old) patch e = tt

present_deletes : (row : Option (List Cell)) → is_none row ≡ false → Fits row Del
present_deletes None e = cc
present_deletes (Some old) e = tt

-- ---- each call keeps the store sound

module _ (limits : Limits) (store : Store) (is : IsSoundStore limits.ranges store) (s : ℕ) where
  -- what a session sees of a key is the fold of the acts on it
  seen : (key begin : ℕ) → row_of (sight_of limits store s begin) key ≡ row_from None (all_acts_on key (take begin store.history) ++ acts_by s (store.begins s) key (accepted_below store.accepted limits.ranges))
  seen key begin = get_snapshot store.history begin (own_writes limits store s) key
      ∙ ap (λ acts. row_from None (all_acts_on key (take begin store.history) ++ acts)) (gathered_acts s (store.begins s) key [] (accepted_below store.accepted limits.ranges) tt)

  begin_keeps : (time : ℕ) (read_only : Bool) (refusal : Option Cause) → (refusal ≡ None → (store.opened s ≡ None) × (time ≤ length store.history)) → IsSoundStore limits.ranges (opened_unless refusal store s time read_only)
  begin_keeps time read_only None free = let f = free refl in begun_sound limits.ranges store is s time read_only f.0 f.1
  begin_keeps time read_only (Some cause) free = is

  write_keeps : (transaction : Opened) → store.opened s ≡ Some transaction → (key : ℕ) (act : Act) (refusal : Option Cause)
      → (refusal ≡ None → (is_placed store.placed key ≡ true) × (conflict_of store s transaction.begin key ≡ None) × Fits (row_of (sight_of limits store s transaction.begin) key) act)
      → IsSoundStore limits.ranges (accepted_unless refusal store s key act)
  write_keeps transaction some key act None free = let f = free refl in accepted_sound limits.ranges store is s transaction some key act f.0 f.1 (subst (λ (row : Option (List Cell)). Fits row act) (seen key transaction.begin) f.2)
  write_keeps transaction some key act (Some cause) free = is

  change_keeps : (opened : Option Opened) → store.opened s ≡ opened → (key : ℕ) (act : Act) → ((row : Option (List Cell)) → is_none row ≡ false → Fits row act) → IsSoundStore limits.ranges (after_change limits store s opened key act)
  change_keeps None same key act fits = is
  change_keeps (Some transaction) same key act fits = write_keeps transaction same key act (change_refusal limits store s transaction key) (λ e.
      let one = first_none (where_true transaction.read_only ReadOnly) (where_true (not (is_placed store.placed key)) Missing ∷ conflict_of store s transaction.begin key ∷ where_true (is_none (row_of (sight_of limits store s transaction.begin) key)) Missing ∷ where_true (is_range_full limits store key) TailFull ∷ []) e in
      let two = first_none (where_true (not (is_placed store.placed key)) Missing) (conflict_of store s transaction.begin key ∷ where_true (is_none (row_of (sight_of limits store s transaction.begin) key)) Missing ∷ where_true (is_range_full limits store key) TailFull ∷ []) one.1 in
      let three = first_none (conflict_of store s transaction.begin key) (where_true (is_none (row_of (sight_of limits store s transaction.begin) key)) Missing ∷ where_true (is_range_full limits store key) TailFull ∷ []) two.1 in
      let four = first_none (where_true (is_none (row_of (sight_of limits store s transaction.begin) key)) Missing) (where_true (is_range_full limits store key) TailFull ∷ []) three.1 in
      (double_not (is_placed store.placed key) (unrefused (not (is_placed store.placed key)) Missing two.0), three.0, fits (row_of (sight_of limits store s transaction.begin) key) (unrefused (is_none (row_of (sight_of limits store s transaction.begin) key)) Missing four.0)))
    where
      double_not : (b : Bool) → not b ≡ false → b ≡ true
      double_not true e = refl
      double_not false e = cc

  abort_keeps : (opened : Option Opened) → store.opened s ≡ opened → IsSoundStore limits.ranges (after_abort store s opened)
  abort_keeps None same = is
  abort_keeps (Some transaction) same = closed_sound limits.ranges store is s transaction same

  end_keeps : (transaction : Opened) → store.opened s ≡ Some transaction → (writes : List Write) → own_writes limits store s ≡ writes → IsSoundStore limits.ranges (with_commit store s transaction writes)
  end_keeps transaction same [] made = closed_sound limits.ranges store is s transaction same
  end_keeps transaction same (write ∷ writes) made = committed_sound limits.ranges store is s transaction same (write ∷ writes)
      (λ q. ap (acts_on q) (sym made) ∙ gathered_acts s (store.begins s) q [] (accepted_below store.accepted limits.ranges) tt)

  commit_keeps : (opened : Option Opened) → store.opened s ≡ opened → IsSoundStore limits.ranges (after_commit limits store s opened)
  commit_keeps None same = is
  commit_keeps (Some transaction) same = end_keeps transaction same (own_writes limits store s) refl

module _ (limits : Limits) (store : Store) (is : IsSoundStore limits.ranges store) (s : ℕ) where
  insert_keeps : (opened : Option Opened) → store.opened s ≡ opened → (key : ℕ) (row : List Cell) → IsSoundStore limits.ranges (after_insert limits store s opened key (Put row))
  insert_keeps None same key row = is
  insert_keeps (Some transaction) same key row = at (early_insert_refusal limits store transaction key) refl
    where
      late : Option Cause
      late = late_insert_refusal limits (with_placed store key) s transaction key

      at : (early : Option Cause) → early_insert_refusal limits store transaction key ≡ early → IsSoundStore limits.ranges (accepted_unless (first_of (early ∷ late ∷ [])) (placed_unless early store key) s key (Put row))
      at (Some cause) e = is
      at None e = write_keeps limits (with_placed store key) (placed_sound limits.ranges store key is) s transaction same key (Put row) (first_of (late ∷ [])) (λ f.
          let whole = first_none late [] f in
          let two = first_none (conflict_of (with_placed store key) s transaction.begin key) (where_true (is_some (row_of (sight_of limits (with_placed store key) s transaction.begin) key)) Exists ∷ where_true (is_range_full limits (with_placed store key) key) TailFull ∷ []) whole.0 in
          let three = first_none (where_true (is_some (row_of (sight_of limits (with_placed store key) s transaction.begin) key)) Exists) (where_true (is_range_full limits (with_placed store key) key) TailFull ∷ []) two.1 in
          (key_placed store.placed key, two.0, absent_fits (row_of (sight_of limits (with_placed store key) s transaction.begin) key) row (unrefused (is_some (row_of (sight_of limits (with_placed store key) s transaction.begin) key)) Exists three.0)))

  call_keeps : (call : Call) → IsSoundStore limits.ranges (store_after limits store s call)
  call_keeps Begin = begin_keeps limits store is s (length store.history) false (begin_refusal limits store s) (λ e. (none_open limits store s e, omega arith))
  call_keeps (AsOf time) = begin_keeps limits store is s time true (as_of_refusal limits store s time) (λ e. let f = begun_at limits store s time e in (none_open limits store s f.0, f.1))
  call_keeps (Get key) = is
  call_keeps (Insert key row) = insert_keeps (store.opened s) refl key row
  call_keeps (Update key patch) = change_keeps limits store is s (store.opened s) refl key (Set patch) (λ row some. present_fits row patch some)
  call_keeps (Delete key) = change_keeps limits store is s (store.opened s) refl key Del present_deletes
  call_keeps (Sum column) = is
  call_keeps Count = is
  call_keeps Scan = is
  call_keeps (Find column number) = is
  call_keeps Commit = commit_keeps limits store is s (store.opened s) refl
  call_keeps Abort = abort_keeps limits store is s (store.opened s) refl

line_keeps : (limits : Limits) (state : State) (l : Line) → IsSoundStore limits.ranges state.store → IsSoundStore limits.ranges (next limits state l).store
line_keeps limits state line.Phase is = is
line_keeps limits state (line.Merge range column) is = is
line_keeps limits state (line.Call session call) is = call_keeps limits state.store is session call

lines_keep : (limits : Limits) (state : State) (script : List Line) → IsSoundStore limits.ranges state.store → IsSoundStore limits.ranges (state_after limits state script).store
lines_keep limits state [] is = is
lines_keep limits state (l ∷ script) is = lines_keep limits (next limits state l) script (line_keeps limits state l is)

pub machine_is_sound : MachineIsSound
machine_is_sound limits script = (lines_keep limits opening script (opening_sound limits.ranges)).sound
