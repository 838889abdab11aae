-- What the machine answers to each call, read from an engine that tells its state.
use Rattle.std.proofs.Common.{◌≡◌, ◌≢◌, ℕ, ◌+◌, ◌*◌, ◌/◌, ◌<◌, ◌≤◌, Bool, true, false, cond, not, List, [], ◌∷◌, ◌++◌, length, get_or, refl, sym, ap, ◌∙◌, subst, arith}
use Rattle.std.proofs.lemmas.Bool.{eqb-true, eq-eqb, leb-false}
use Rattle.std.proofs.lemmas.List.{length-map, map-append, get_or-map}
use Rattle.std.proofs.lemmas.List.Elements.{Contains-get_or}
use Rattle.std.specs.List.{Contains}
use Rattle.std.specs.Prelude.{Option, Some, None, is_some, is_none, unwrap_or, nat_lt, nat_le, ◌==◌, ◌&&◌}
use Rattle.lst_layout.specs.declared.limits.Limits.{Limits}
use Rattle.lst_model.specs.declared.acts.Act.{Act}
use Rattle.lst_model.specs.declared.acts.Act.TheVariants.{Put, Set, Del}
use Rattle.lst_model.specs.declared.acts.Write.{Write}
use Rattle.lst_model.specs.declared.lines.Call.TheVariants.{Begin, AsOf, Get, Insert, Commit, Abort}
use Rattle.lst_model.specs.declared.replies.Reply.TheVariants.{Begun, Done, Absent, Committed, Ended, Aborted, Refused}
use Rattle.lst_model.specs.declared.replies.Cause.{Cause}
use Rattle.lst_model.specs.declared.replies.Cause.TheVariants.{Idle, Active, ReadOnly, Spent, Future, Missing, TableFull, TailFull}
use Rattle.lst_model.specs.Cells.{Cell}
use Rattle.lst_model.specs.Tables.{row_of}
use Rattle.lst_machine.specs.State.{Opened, Store}
use Rattle.lst_machine.specs.Writes.{place_of, is_placed, range_of, conflict_of, own_writes, sight_of}
use Rattle.lst_machine.specs.Calls.{first_of, where_true, refused_or, in_open, begin_refusal, as_of_refusal, opened_unless, row_reply, early_insert_refusal, late_insert_refusal, insert_refusal, change_refusal, with_placed, is_range_full, accepted_unless, placed_unless, after_insert, after_change, end_reply, after_commit, after_abort, with_opened, with_commit, call_reply, store_after}
use Rattle.lst_model.specs.Histories.{acts_on}
use Rattle.lst_machine.specs.declared.answers.Transaction.{Transaction}
use Rattle.lst_plain.specs.declared.versions.Pending.{Pending}
use Rattle.lst_plain.specs.Rows.{Kept, fresh, keys_of, kept_of, row_seen, conflict_in, is_held}
use Rattle.lst_plain.specs.Engines.{EngineState, session_of, is_open, is_among, IsWhole}
use Rattle.lst_machine.specs.Changes.{misfit}
use Rattle.lst_plain.specs.Steps.{refusal_of_begin, with_transaction, with_record, kept_at, refusal_of_write, written_unless, row_written, reply_to_write, after_write, is_full, reply_to_first, after_first, with_end}
use Rattle.lst_machine.specs.Changes.{IsChange}
use Rattle.lst_machine.specs.Transactions.{opened_as}
use Rattle.lst_plain.specs.Telling.{own_acts, KeyTells, SessionTells, StoreTells}
use Rattle.lst_machine.proofs.Places.{with_last, place-append}
use Rattle.lst_plain.proofs.Placing.{at_place, kept-at, kept-absent}
use Rattle.lst_plain.proofs.Seeing.{sight_is, conflict_is, range_low, own_by_key}
use Rattle.lst_plain.proofs.Adding.{tells_placed}
use Rattle.lst_plain.proofs.Ending.{tells_closed, tells_committed}
use Rattle.lst_plain.proofs.Keeping.{whole_placed}
use Rattle.lst_plain.proofs.Opening.{tells_opened}
use Rattle.lst_plain.proofs.Accepting.{tells_accepted}

is_some-opened : (transaction : Option Transaction) → is_some (opened_as transaction) ≡ is_some transaction
is_some-opened None = refl
is_some-opened (Some transaction) = refl

-- no refusal before the last
pub first_none : (cause rest : Option Cause) → first_of (cause ∷ rest ∷ []) ≡ None → (cause ≡ None) × (rest ≡ None)
first_none None None is = (refl, refl)
first_none None (Some cause) is = absurd (cc)
first_none (Some cause) rest is = absurd (cc)

where_none : (b : Bool) (cause : Cause) → where_true b cause ≡ None → b ≡ false
where_none true cause is = absurd (cc)
where_none false cause is = refl

module _ (engine : EngineState) (limits : Limits) (store : Store) (told : StoreTells engine limits store) (s : ℕ) (low : s < engine.limits.sessions) (whole : IsWhole engine) where
  pub low_limits : s < limits.sessions
  low_limits = subst (λ (l : Limits). s < l.sessions) told.same_limits low

  within : s < length engine.sessions
  within = let all = whole.sessions in omega (arith, all)

  here : SessionTells (session_of engine s) store s
  here = told.sessions s low_limits

  idle : (session_of engine s).transaction ≡ None → store.opened s ≡ None
  idle none = here.opened ∙ ap opened_as none

  opened : (transaction : Transaction) → (session_of engine s).transaction ≡ Some transaction → store.opened s ≡ Some (record { begin = transaction.begin; read_only = transaction.read_only })
  opened transaction is = here.opened ∙ ap opened_as is

  -- begins

  begin_refusal_is : begin_refusal limits store s ≡ refusal_of_begin engine s
  begin_refusal_is =
      ap (λ b. first_of (where_true b Active ∷ where_true (nat_le limits.txns (store.begins s)) Spent ∷ [])) (ap is_some here.opened ∙ is_some-opened (session_of engine s).transaction)
      ∙ ap (λ n. first_of (where_true (is_open (session_of engine s)) Active ∷ where_true (nat_le limits.txns n) Spent ∷ [])) here.begins
      ∙ ap (λ (l : Limits). first_of (where_true (is_open (session_of engine s)) Active ∷ where_true (nat_le l.txns (session_of engine s).begins) Spent ∷ [])) (sym told.same_limits)

  closed_now : refusal_of_begin engine s ≡ None → (session_of engine s).transaction ≡ None
  closed_now free = at (session_of engine s).transaction refl
    where
      at : (transaction : Option Transaction) → (session_of engine s).transaction ≡ transaction → transaction ≡ None
      at None is = refl
      at (Some transaction) is = let is_open : is_some (session_of engine s).transaction ≡ false = where_none _ Active (first_none _ _ free).0 in let both : true ≡ false = sym (ap is_some is) ∙ is_open in absurd (cc)

  pub begin_refused : (cause : Cause) → refusal_of_begin engine s ≡ Some cause → (Refused cause ≡ call_reply limits store s Begin) × StoreTells engine limits (store_after limits store s Begin)
  begin_refused cause is = let same = begin_refusal_is ∙ is in
      (ap (λ r. refused_or r (Begun (length store.history))) (sym same), subst (λ r. StoreTells engine limits (opened_unless r store s (length store.history) false)) (sym same) told)

  pub begin_done : refusal_of_begin engine s ≡ None → (Begun engine.clock ≡ call_reply limits store s Begin) × StoreTells (with_transaction engine s (record { begin = engine.clock; read_only = false })) limits (store_after limits store s Begin)
  begin_done is = let same = begin_refusal_is ∙ is in (
    ap Begun (sym told.clock) ∙ ap (λ r. refused_or r (Begun (length store.history))) (sym same),
    subst (λ r. StoreTells (with_transaction engine s (record { begin = engine.clock; read_only = false })) limits (opened_unless r store s (length store.history) false)) (sym same)
        (subst (λ c. StoreTells (with_transaction engine s (record { begin = c; read_only = false })) limits (with_opened store s (length store.history) false)) told.clock
        (tells_opened engine limits store s (record { begin = length store.history; read_only = false }) told low_limits within (closed_now is) (omega arith))),
  )

  as_of_refusal_is : (time : ℕ) → as_of_refusal limits store s time ≡ first_of (refusal_of_begin engine s ∷ where_true (nat_lt engine.clock time) (Future engine.clock) ∷ [])
  as_of_refusal_is time =
      ap (λ r. first_of (r ∷ where_true (nat_lt (length store.history) time) (Future (length store.history)) ∷ [])) begin_refusal_is
      ∙ ap (λ c. first_of (refusal_of_begin engine s ∷ where_true (nat_lt c time) (Future c) ∷ [])) told.clock

  pub as_of_refused : (time : ℕ) (cause : Cause) → first_of (refusal_of_begin engine s ∷ where_true (nat_lt engine.clock time) (Future engine.clock) ∷ []) ≡ Some cause
      → (Refused cause ≡ call_reply limits store s (AsOf time)) × StoreTells engine limits (store_after limits store s (AsOf time))
  as_of_refused time cause is = let same = as_of_refusal_is time ∙ is in
      (ap (λ r. refused_or r (Begun time)) (sym same), subst (λ r. StoreTells engine limits (opened_unless r store s time true)) (sym same) told)

  pub as_of_done : (time : ℕ) → refusal_of_begin engine s ≡ None → time ≤ engine.clock
      → (Begun time ≡ call_reply limits store s (AsOf time)) × StoreTells (with_transaction engine s (record { begin = time; read_only = true })) limits (store_after limits store s (AsOf time))
  as_of_done time free early =
      let same : as_of_refusal limits store s time ≡ None = as_of_refusal_is time
      ∙ ap (λ r. first_of (r ∷ where_true (nat_lt engine.clock time) (Future engine.clock) ∷ [])) free
      ∙ ap (λ b. first_of (where_true b (Future engine.clock) ∷ [])) (let not_late : nat_lt engine.clock time ≡ false = grind arith in not_late) in (
        ap (λ r. refused_or r (Begun time)) (sym same),
        subst (λ r. StoreTells (with_transaction engine s (record { begin = time; read_only = true })) limits (opened_unless r store s time true)) (sym same)
            (tells_opened engine limits store s (record { begin = time; read_only = true }) told low_limits within (closed_now free) (let clock = told.clock in omega (arith, clock))),
      )

  some_ranges : 0 < limits.ranges
  some_ranges = subst (λ (l : Limits). 0 < l.ranges) told.same_limits whole.valid.ranges.0

  few_placed : length store.placed ≤ 256 * limits.ranges
  few_placed = subst (λ (l : Limits). length store.placed ≤ 256 * l.ranges) told.same_limits
      (let all = ap length told.placed in let same = length-map engine.records (λ (kept : Kept). kept.key) in let fits = whole.records in omega (arith, all, same, fits))

  seen : (transaction : Transaction) → (session_of engine s).transaction ≡ Some transaction → (key : ℕ) → row_of (sight_of limits store s transaction.begin) key ≡ row_seen (kept_of engine.records key) s transaction.begin
  seen transaction is key = sight_is (kept_of engine.records key) store key (told.keys key) s (record { begin = transaction.begin; read_only = transaction.read_only }) (opened transaction is) limits told.reached some_ranges few_placed

  -- reads

  pub get_idle : (key : ℕ) → (session_of engine s).transaction ≡ None → Refused Idle ≡ call_reply limits store s (Get key)
  get_idle key none = ap (λ o. in_open o (λ transaction. row_reply (row_of (sight_of limits store s transaction.begin) key))) (sym (idle none))

  get_open : (transaction : Transaction) → (session_of engine s).transaction ≡ Some transaction → (key : ℕ) → row_reply (row_seen (kept_of engine.records key) s transaction.begin) ≡ call_reply limits store s (Get key)
  get_open transaction is key = ap row_reply (sym (seen transaction is key)) ∙ ap (λ o. in_open o (λ transaction. row_reply (row_of (sight_of limits store s transaction.begin) key))) (sym (opened transaction is))

  pub get_absent : (transaction : Transaction) → (session_of engine s).transaction ≡ Some transaction → (key : ℕ) → place_of (keys_of engine.records) key ≡ None → Absent ≡ call_reply limits store s (Get key)
  get_absent transaction is key none = ap (λ (kept : Kept). row_reply (row_seen kept s transaction.begin)) (sym (kept-absent engine.records key none)) ∙ get_open transaction is key

  pub get_row : (transaction : Transaction) → (session_of engine s).transaction ≡ Some transaction → (key place : ℕ) (d : Kept) → place_of (keys_of engine.records) key ≡ Some place
      → row_reply (row_seen (get_or engine.records place d) s transaction.begin) ≡ call_reply limits store s (Get key)
  get_row transaction is key place d at = ap (λ (kept : Kept). row_reply (row_seen kept s transaction.begin)) (sym (kept-at engine.records key place d at)) ∙ get_open transaction is key

  -- writes

  module _ (transaction : Transaction) (is_open : (session_of engine s).transaction ≡ Some transaction) (key place : ℕ) (at : place_of (keys_of engine.records) key ≡ Some place) where
    abbrev begun : Opened
    begun = record { begin = transaction.begin; read_only = transaction.read_only }

    at_list : place_of store.placed key ≡ Some place
    at_list = ap (λ keys. place_of keys key) told.placed ∙ at

    kept_is : kept_of engine.records key ≡ kept_at engine place
    kept_is = kept-at engine.records key place (fresh 0) at

    range_is : range_of store.placed key ≡ place / 256
    range_is = ap (λ p. unwrap_or p 0 / 256) at_list

    in_limits : place / 256 < limits.ranges
    in_limits = let low = range_low store.placed key limits.ranges some_ranges few_placed in omega (arith, low, range_is)

    in_range : place / 256 < length engine.accepted
    in_range = let all = whole.ranges in let same = ap (λ (l : Limits). l.ranges) told.same_limits in let low = in_limits in omega (arith, all, same, low)

    refusal_is : (act : Act) → first_of (conflict_of store s transaction.begin key ∷ misfit (row_of (sight_of limits store s transaction.begin) key) act ∷ where_true (is_range_full limits store key) TailFull ∷ []) ≡ refusal_of_write engine s transaction.begin place act
    refusal_is act =
        ap (λ c. first_of (c ∷ misfit (row_of (sight_of limits store s transaction.begin) key) act ∷ where_true (is_range_full limits store key) TailFull ∷ []))
        (conflict_is (kept_of engine.records key) store key (told.keys key) s begun (opened transaction is_open) told.reached)
        ∙ ap (λ row. first_of (conflict_in (kept_of engine.records key) s transaction.begin ∷ misfit row act ∷ where_true (is_range_full limits store key) TailFull ∷ [])) (seen transaction is_open key)
        ∙ ap (λ (kept : Kept). first_of (conflict_in kept s transaction.begin ∷ misfit (row_seen kept s transaction.begin) act ∷ where_true (is_range_full limits store key) TailFull ∷ [])) kept_is
        ∙ ap (λ b. first_of (conflict_in (kept_at engine place) s transaction.begin ∷ misfit (row_seen (kept_at engine place) s transaction.begin) act ∷ where_true b TailFull ∷ [])) full_is
      where
        full_is : is_range_full limits store key ≡ nat_le engine.limits.tails (get_or engine.accepted (place / 256) 0)
        full_is = ap (λ r. nat_le limits.tails (length (store.accepted r))) range_is
            ∙ ap (λ n. nat_le limits.tails n) (told.counts (place / 256) in_limits)
            ∙ ap (λ (l : Limits). nat_le l.tails (get_or engine.accepted (place / 256) 0)) (sym told.same_limits)

    written_is : (act : Act) → (refusal : Option Cause) → refusal_of_write engine s transaction.begin place act ≡ refusal
        → StoreTells (written_unless refusal engine s place (row_written engine s transaction.begin place act)) limits (accepted_unless refusal store s key act)
    written_is act None free = tells_accepted engine limits store told s low_limits within begun (opened transaction is_open) key place at in_range (first_none3 _ _ _ free) act (row_written engine s transaction.begin place act) refl
      where
        first_none3 : (a b c : Option Cause) → first_of (a ∷ b ∷ c ∷ []) ≡ None → a ≡ None
        first_none3 None b c is = refl
        first_none3 (Some cause) b c is = absurd (cc)
    written_is act (Some cause) free = told

    -- of an act that changes a row
    pub change_open : transaction.read_only ≡ false → (act : Act) → ((row : Option (List Cell)) → misfit row act ≡ where_true (is_none row) Missing)
        → (reply_to_write engine s transaction.begin place act ≡ in_open (store.opened s) (λ t. refused_or (change_refusal limits store s t key) Done)) × StoreTells (after_write engine s transaction.begin place act) limits (after_change limits store s (store.opened s) key act)
    change_open writes act misfits =
        let same : change_refusal limits store s begun key ≡ refusal_of_write engine s transaction.begin place act =
        ap (λ b. first_of (where_true b ReadOnly ∷ where_true (not (is_placed store.placed key)) Missing ∷ conflict_of store s transaction.begin key ∷ where_true (is_none (row_of (sight_of limits store s transaction.begin) key)) Missing ∷ where_true (is_range_full limits store key) TailFull ∷ [])) writes
        ∙ ap (λ p. first_of (where_true (not (is_some p)) Missing ∷ conflict_of store s transaction.begin key ∷ where_true (is_none (row_of (sight_of limits store s transaction.begin) key)) Missing ∷ where_true (is_range_full limits store key) TailFull ∷ [])) at_list
        ∙ ap (λ m. first_of (conflict_of store s transaction.begin key ∷ m ∷ where_true (is_range_full limits store key) TailFull ∷ [])) (sym (misfits (row_of (sight_of limits store s transaction.begin) key)))
        ∙ refusal_is act in (
          ap (λ r. refused_or r Done) (sym same) ∙ ap (λ o. in_open o (λ t. refused_or (change_refusal limits store s t key) Done)) (sym (opened transaction is_open)),
          subst (λ o. StoreTells (after_write engine s transaction.begin place act) limits (after_change limits store s o key act)) (sym (opened transaction is_open))
              (subst (λ r. StoreTells (after_write engine s transaction.begin place act) limits (accepted_unless r store s key act)) (sym same) (written_is act (refusal_of_write engine s transaction.begin place act) refl)),
        )

    late_is : (cells : List Cell) → late_insert_refusal limits store s begun key ≡ refusal_of_write engine s transaction.begin place (Put cells)
    late_is cells = refusal_is (Put cells)

    same_placed : with_placed store key ≡ store
    same_placed = ap (λ p. record store { placed = cond (is_some p) store.placed (store.placed ++ key ∷ []) }) at_list

    early_none : transaction.read_only ≡ false → early_insert_refusal limits store begun key ≡ None
    early_none writes =
        ap (λ b. first_of (where_true b ReadOnly ∷ where_true (not (is_placed store.placed key) && nat_le (256 * limits.ranges) (length store.placed)) TableFull ∷ [])) writes
        ∙ ap (λ p. first_of (where_true (not (is_some p) && nat_le (256 * limits.ranges) (length store.placed)) TableFull ∷ [])) at_list

    -- of an insert of a key that has a record
    pub insert_placed : transaction.read_only ≡ false → (cells : List Cell)
        → (reply_to_write engine s transaction.begin place (Put cells) ≡ call_reply limits store s (Insert key cells)) × StoreTells (after_write engine s transaction.begin place (Put cells)) limits (store_after limits store s (Insert key cells))
    insert_placed writes cells =
        let same : insert_refusal limits store s begun key ≡ refusal_of_write engine s transaction.begin place (Put cells) =
        ap (λ r. first_of (r ∷ late_insert_refusal limits (with_placed store key) s begun key ∷ [])) (early_none writes)
        ∙ ap (λ (st : Store). first_of (late_insert_refusal limits st s begun key ∷ [])) same_placed
        ∙ ap (λ r. first_of (r ∷ [])) (late_is cells)
        ∙ only (refusal_of_write engine s transaction.begin place (Put cells)) in (
          ap (λ r. refused_or r Done) (sym same) ∙ ap (λ o. in_open o (λ t. refused_or (insert_refusal limits store s t key) Done)) (sym (opened transaction is_open)),
          subst (λ o. StoreTells (after_write engine s transaction.begin place (Put cells)) limits (after_insert limits store s o key (Put cells))) (sym (opened transaction is_open))
              (subst (λ r. StoreTells (after_write engine s transaction.begin place (Put cells)) limits (accepted_unless r (placed_unless (early_insert_refusal limits store begun key) store key) s key (Put cells))) (sym same)
              (subst (λ r. StoreTells (after_write engine s transaction.begin place (Put cells)) limits (accepted_unless (refusal_of_write engine s transaction.begin place (Put cells)) (placed_unless r store key) s key (Put cells))) (sym (early_none writes))
              (subst (λ (st : Store). StoreTells (after_write engine s transaction.begin place (Put cells)) limits (accepted_unless (refusal_of_write engine s transaction.begin place (Put cells)) st s key (Put cells))) (sym same_placed)
              (written_is (Put cells) (refusal_of_write engine s transaction.begin place (Put cells)) refl)))),
        )
      where
        only : (r : Option Cause) → first_of (r ∷ []) ≡ r
        only None = refl
        only (Some cause) = refl

  pub insert_idle : (key : ℕ) (cells : List Cell) → (session_of engine s).transaction ≡ None → (Refused Idle ≡ call_reply limits store s (Insert key cells)) × StoreTells engine limits (store_after limits store s (Insert key cells))
  insert_idle key cells none = (ap (λ o. in_open o (λ t. refused_or (insert_refusal limits store s t key) Done)) (sym (idle none)), subst (λ o. StoreTells engine limits (after_insert limits store s o key (Put cells))) (sym (idle none)) told)

  pub change_idle : (key : ℕ) (act : Act) → (session_of engine s).transaction ≡ None
      → (Refused Idle ≡ in_open (store.opened s) (λ t. refused_or (change_refusal limits store s t key) Done)) × StoreTells engine limits (after_change limits store s (store.opened s) key act)
  change_idle key act none = (ap (λ o. in_open o (λ t. refused_or (change_refusal limits store s t key) Done)) (sym (idle none)), subst (λ o. StoreTells engine limits (after_change limits store s o key act)) (sym (idle none)) told)

  module _ (transaction : Transaction) (is_open : (session_of engine s).transaction ≡ Some transaction) (key : ℕ) where
    abbrev then : Opened
    then = record { begin = transaction.begin; read_only = transaction.read_only }

    change_refused : (act : Act) (cause : Cause) → change_refusal limits store s then key ≡ Some cause
        → (Refused cause ≡ in_open (store.opened s) (λ t. refused_or (change_refusal limits store s t key) Done)) × StoreTells engine limits (after_change limits store s (store.opened s) key act)
    change_refused act cause is = (
      ap (λ r. refused_or r Done) (sym is) ∙ ap (λ o. in_open o (λ t. refused_or (change_refusal limits store s t key) Done)) (sym (opened transaction is_open)),
      subst (λ o. StoreTells engine limits (after_change limits store s o key act)) (sym (opened transaction is_open)) (subst (λ r. StoreTells engine limits (accepted_unless r store s key act)) (sym is) told),
    )

    pub change_read_only : transaction.read_only ≡ true → (act : Act)
        → (Refused ReadOnly ≡ in_open (store.opened s) (λ t. refused_or (change_refusal limits store s t key) Done)) × StoreTells engine limits (after_change limits store s (store.opened s) key act)
    change_read_only reads act = change_refused act ReadOnly
        (ap (λ b. first_of (where_true b ReadOnly ∷ where_true (not (is_placed store.placed key)) Missing ∷ conflict_of store s transaction.begin key ∷ where_true (is_none (row_of (sight_of limits store s transaction.begin) key)) Missing ∷ where_true (is_range_full limits store key) TailFull ∷ [])) reads)

    unplaced : place_of (keys_of engine.records) key ≡ None → place_of store.placed key ≡ None
    unplaced absent = ap (λ keys. place_of keys key) told.placed ∙ absent

    pub change_absent : transaction.read_only ≡ false → place_of (keys_of engine.records) key ≡ None → (act : Act)
        → (Refused Missing ≡ in_open (store.opened s) (λ t. refused_or (change_refusal limits store s t key) Done)) × StoreTells engine limits (after_change limits store s (store.opened s) key act)
    change_absent writes absent act = change_refused act Missing
        (ap (λ b. first_of (where_true b ReadOnly ∷ where_true (not (is_placed store.placed key)) Missing ∷ conflict_of store s transaction.begin key ∷ where_true (is_none (row_of (sight_of limits store s transaction.begin) key)) Missing ∷ where_true (is_range_full limits store key) TailFull ∷ [])) writes
        ∙ ap (λ p. first_of (where_true (not (is_some p)) Missing ∷ conflict_of store s transaction.begin key ∷ where_true (is_none (row_of (sight_of limits store s transaction.begin) key)) Missing ∷ where_true (is_range_full limits store key) TailFull ∷ [])) (unplaced absent))

    insert_refused : (cells : List Cell) (cause : Cause) → early_insert_refusal limits store then key ≡ Some cause
        → (Refused cause ≡ call_reply limits store s (Insert key cells)) × StoreTells engine limits (store_after limits store s (Insert key cells))
    insert_refused cells cause is =
        let all : insert_refusal limits store s then key ≡ Some cause = ap (λ r. first_of (r ∷ late_insert_refusal limits (with_placed store key) s then key ∷ [])) is in (
          ap (λ r. refused_or r Done) (sym all) ∙ ap (λ o. in_open o (λ t. refused_or (insert_refusal limits store s t key) Done)) (sym (opened transaction is_open)),
          subst (λ o. StoreTells engine limits (after_insert limits store s o key (Put cells))) (sym (opened transaction is_open))
              (subst (λ r. StoreTells engine limits (accepted_unless r (placed_unless (early_insert_refusal limits store then key) store key) s key (Put cells))) (sym all)
              (subst (λ r. StoreTells engine limits (placed_unless r store key)) (sym is) told)),
        )

    pub insert_read_only : transaction.read_only ≡ true → (cells : List Cell) → (Refused ReadOnly ≡ call_reply limits store s (Insert key cells)) × StoreTells engine limits (store_after limits store s (Insert key cells))
    insert_read_only reads cells = insert_refused cells ReadOnly
        (ap (λ b. first_of (where_true b ReadOnly ∷ where_true (not (is_placed store.placed key) && nat_le (256 * limits.ranges) (length store.placed)) TableFull ∷ [])) reads)

    early_is : transaction.read_only ≡ false → place_of (keys_of engine.records) key ≡ None → early_insert_refusal limits store then key ≡ where_true (is_full engine) TableFull
    early_is writes absent =
        ap (λ b. first_of (where_true b ReadOnly ∷ where_true (not (is_placed store.placed key) && nat_le (256 * limits.ranges) (length store.placed)) TableFull ∷ [])) writes
        ∙ ap (λ p. first_of (where_true (not (is_some p) && nat_le (256 * limits.ranges) (length store.placed)) TableFull ∷ [])) (unplaced absent)
        ∙ ap (λ n. first_of (where_true (nat_le (256 * limits.ranges) n) TableFull ∷ [])) (ap length told.placed ∙ length-map engine.records (λ (kept : Kept). kept.key))
        ∙ ap (λ (l : Limits). first_of (where_true (nat_le (256 * l.ranges) (length engine.records)) TableFull ∷ [])) (sym told.same_limits)
        ∙ only (is_full engine)
      where
        only : (b : Bool) → first_of (where_true b TableFull ∷ []) ≡ where_true b TableFull
        only true = refl
        only false = refl

-- Of an insert of a key that has no record

module _ (engine : EngineState) (limits : Limits) (store : Store) (told : StoreTells engine limits store) (s : ℕ) (low : s < engine.limits.sessions) (whole : IsWhole engine)
    (transaction : Transaction) (is_open : (session_of engine s).transaction ≡ Some transaction) (writes : transaction.read_only ≡ false) (key : ℕ) (absent : place_of (keys_of engine.records) key ≡ None) (cells : List Cell) where
  abbrev first : EngineState
  first = with_record engine key

  told_first : StoreTells first limits (with_placed store key)
  told_first = tells_placed engine limits store key told absent

  place_first : place_of (keys_of first.records) key ≡ Some (length engine.records)
  place_first =
      ap (λ keys. place_of keys key) (map-append (λ (kept : Kept). kept.key) engine.records (fresh key ∷ []))
      ∙ place-append (keys_of engine.records) key key
      ∙ ap (λ p. with_last p (key == key) (length (keys_of engine.records))) absent
      ∙ ap (λ b. cond b (Some (length (keys_of engine.records))) None) (eq-eqb key key refl)
      ∙ ap Some (length-map engine.records (λ (kept : Kept). kept.key))

  early_not_full : is_full engine ≡ false → early_insert_refusal limits store (record { begin = transaction.begin; read_only = transaction.read_only }) key ≡ None
  early_not_full free = early_is engine limits store told s low whole transaction is_open key writes absent ∙ ap (λ b. where_true b TableFull) free

  pub insert_full : is_full engine ≡ true → (Refused TableFull ≡ call_reply limits store s (Insert key cells)) × StoreTells engine limits (store_after limits store s (Insert key cells))
  insert_full full = insert_refused engine limits store told s low whole transaction is_open key cells TableFull (early_is engine limits store told s low whole transaction is_open key writes absent ∙ ap (λ b. where_true b TableFull) full)

  pub insert_first : is_full engine ≡ false
      → (reply_to_write first s transaction.begin (length engine.records) (Put cells) ≡ call_reply limits store s (Insert key cells)) × StoreTells (after_write first s transaction.begin (length engine.records) (Put cells)) limits (store_after limits store s (Insert key cells))
  insert_first free =
      let few : length engine.records < 256 * engine.limits.ranges = leb-false _ _ free in
      let whole_first : IsWhole first = whole_placed engine key whole few in
      let R : Option Cause = refusal_of_write first s transaction.begin (length engine.records) (Put cells) in
      let late : late_insert_refusal limits (with_placed store key) s (record { begin = transaction.begin; read_only = transaction.read_only }) key ≡ refusal_of_write first s transaction.begin (length engine.records) (Put cells) =
      late_is first limits (with_placed store key) told_first s low whole_first transaction is_open key (length engine.records) place_first cells in
      let none = early_not_full free in
      let same : insert_refusal limits store s (record { begin = transaction.begin; read_only = transaction.read_only }) key ≡ refusal_of_write first s transaction.begin (length engine.records) (Put cells) =
      ap (λ r. first_of (r ∷ late_insert_refusal limits (with_placed store key) s (record { begin = transaction.begin; read_only = transaction.read_only }) key ∷ [])) none
      ∙ ap (λ r. first_of (r ∷ [])) late
      ∙ only (refusal_of_write first s transaction.begin (length engine.records) (Put cells)) in
      let now = opened engine limits store told s low whole transaction is_open in (
        ap (λ r. refused_or r Done) (sym same) ∙ ap (λ o. in_open o (λ t. refused_or (insert_refusal limits store s t key) Done)) (sym now),
        subst (λ o. StoreTells (after_write first s transaction.begin (length engine.records) (Put cells)) limits (after_insert limits store s o key (Put cells))) (sym now)
            (subst (λ r. StoreTells (after_write first s transaction.begin (length engine.records) (Put cells)) limits (accepted_unless r (placed_unless (early_insert_refusal limits store (record { begin = transaction.begin; read_only = transaction.read_only }) key) store key) s key (Put cells))) (sym same)
            (subst (λ r. StoreTells (after_write first s transaction.begin (length engine.records) (Put cells)) limits (accepted_unless (refusal_of_write first s transaction.begin (length engine.records) (Put cells)) (placed_unless r store key) s key (Put cells))) (sym none)
            (written_is first limits (with_placed store key) told_first s low whole_first transaction is_open key (length engine.records) place_first (Put cells) (refusal_of_write first s transaction.begin (length engine.records) (Put cells)) refl))),
      )
    where
      only : (r : Option Cause) → first_of (r ∷ []) ≡ r
      only None = refl
      only (Some cause) = refl

  pub insert_new : (reply_to_first engine s transaction.begin key (Put cells) ≡ call_reply limits store s (Insert key cells)) × StoreTells (after_first engine s transaction.begin key (Put cells)) limits (store_after limits store s (Insert key cells))
  insert_new = at (is_full engine) refl
    where
      at : (full : Bool) → is_full engine ≡ full
          → (cond full (Refused TableFull) (reply_to_write first s transaction.begin (length engine.records) (Put cells)) ≡ call_reply limits store s (Insert key cells))
          × StoreTells (cond full engine (after_write first s transaction.begin (length engine.records) (Put cells))) limits (store_after limits store s (Insert key cells))
      at true is = insert_full is
      at false is = insert_first is

-- The end of a transaction

-- writes without acts on any key are none
no_writes : (writes : List Write) → ((key : ℕ) → acts_on key writes ≡ []) → writes ≡ []
no_writes [] none = refl
no_writes (write ∷ writes) none = let some : write.act ∷ acts_on write.key writes ≡ [] = sym (ap (λ b. cond b (write.act ∷ acts_on write.key writes) (acts_on write.key writes)) (eq-eqb write.key write.key refl)) ∙ none write.key in absurd (cc)

module _ (engine : EngineState) (limits : Limits) (store : Store) (told : StoreTells engine limits store) (s : ℕ) (low : s < engine.limits.sessions) (whole : IsWhole engine) where
  pub commit_idle : (session_of engine s).transaction ≡ None → (Refused Idle ≡ call_reply limits store s Commit) × StoreTells engine limits (store_after limits store s Commit)
  commit_idle none = let shut = idle engine limits store told s low whole none in
      (ap (λ o. in_open o (λ t. end_reply store t (own_writes limits store s))) (sym shut), subst (λ o. StoreTells engine limits (after_commit limits store s o)) (sym shut) told)

  pub abort_idle : (session_of engine s).transaction ≡ None → (Refused Idle ≡ call_reply limits store s Abort) × StoreTells engine limits (store_after limits store s Abort)
  abort_idle none = let shut = idle engine limits store told s low whole none in
      (ap (λ o. in_open o (λ t. Aborted)) (sym shut), subst (λ o. StoreTells engine limits (after_abort store s o)) (sym shut) told)

  module _ (transaction : Transaction) (is_open : (session_of engine s).transaction ≡ Some transaction) where
    abbrev was : Opened
    was = record { begin = transaction.begin; read_only = transaction.read_only }

    now : store.opened s ≡ Some was
    now = opened engine limits store told s low whole transaction is_open

    own : (key : ℕ) → acts_on key (own_writes limits store s) ≡ own_acts store s key
    own key = own_by_key limits store told.reached (some_ranges engine limits store told s low whole) (few_placed engine limits store told s low whole) s key

    pub abort_open : (Aborted ≡ call_reply limits store s Abort) × StoreTells (with_end engine s None) limits (store_after limits store s Abort)
    abort_open = (
      ap (λ o. in_open o (λ t. Aborted)) (sym now),
      subst (λ o. StoreTells (with_end engine s None) limits (after_abort store s o)) (sym now) (tells_closed engine limits store told s (low_limits engine limits store told s low whole) (within engine limits store told s low whole) was now),
    )

    -- without places of its own the session has no acts
    nothing_held : (session_of engine s).written ≡ [] → (key : ℕ) → is_held (kept_of engine.records key).pending s ≡ false
    nothing_held none key = at (place_of (keys_of engine.records) key) refl
      where
        held : (place : ℕ) → place_of (keys_of engine.records) key ≡ Some place → (b : Bool) → is_held (get_or engine.records place (fresh 0)).pending s ≡ b → b ≡ false
        held place is true by_it = let inside : place < length engine.records = (let found = (at_place (keys_of engine.records) key place is).0 in let same = length-map engine.records (λ (kept : Kept). kept.key) in omega (arith, found, same)) in
            let noted : false ≡ true = sym (ap (λ places. is_among places place) none) ∙ whole.noted s place (fresh 0) low inside by_it in absurd (cc)
        held place is false by_it = refl

        at : (place : Option ℕ) → place_of (keys_of engine.records) key ≡ place → is_held (kept_of engine.records key).pending s ≡ false
        at None is = ap (λ (kept : Kept). is_held kept.pending s) (kept-absent engine.records key is)
        at (Some place) is = ap (λ (kept : Kept). is_held kept.pending s) (kept-at engine.records key place (fresh 0) is) ∙ held place is (is_held (get_or engine.records place (fresh 0)).pending s) refl

    pub commit_empty : (session_of engine s).written ≡ [] → (Ended transaction.begin ≡ call_reply limits store s Commit) × StoreTells (with_end engine s None) limits (store_after limits store s Commit)
    commit_empty none =
        let nothing : own_writes limits store s ≡ [] = no_writes (own_writes limits store s) (λ key. own key ∙ (told.keys key).others s (ap is_some now) (nothing_held none key)) in (
          ap (end_reply store was) (sym nothing) ∙ ap (λ o. in_open o (λ t. end_reply store t (own_writes limits store s))) (sym now),
          subst (λ o. StoreTells (with_end engine s None) limits (after_commit limits store s o)) (sym now)
              (subst (λ ws. StoreTells (with_end engine s None) limits (with_commit store s was ws)) (sym nothing)
              (tells_closed engine limits store told s (low_limits engine limits store told s low whole) (within engine limits store told s low whole) was now)),
        )

    -- a place of its own shows that the session has own writes
    some_own : 0 < length (session_of engine s).written → own_writes limits store s ≢ []
    some_own some none =
        let place : ℕ = get_or (session_of engine s).written 0 0 in
        let noted : Contains (session_of engine s).written (get_or (session_of engine s).written 0 0) = Contains-get_or (session_of engine s).written 0 0 some in
        by_place (get_or (session_of engine s).written 0 0) (whole.written s (get_or (session_of engine s).written 0 0) noted) (whole.held s (get_or (session_of engine s).written 0 0) (fresh 0) noted)
      where
        by_pending : (kept : Kept) → KeyTells kept store kept.key → (pending : Option Pending) → kept.pending ≡ pending → is_held pending s ≡ true → ⊥
        by_pending kept tells None is held = let both : false ≡ true = held in cc
        by_pending kept tells (Some pending) is held = (tells.pending pending is).written
            (ap (λ j. own_acts store j kept.key) (eqb-true pending.session s held) ∙ sym (own kept.key) ∙ ap (acts_on kept.key) none)

        by_place : (place : ℕ) → place < length engine.records → is_held (get_or engine.records place (fresh 0)).pending s ≡ true → ⊥
        by_place place inside held =
            let kept : Kept = get_or engine.records place (fresh 0) in
            let key_is : get_or (keys_of engine.records) place 0 ≡ (get_or engine.records place (fresh 0)).key = get_or-map (λ (k : Kept). k.key) engine.records place (fresh 0) 0 inside in
            let at : place_of (keys_of engine.records) (get_or engine.records place (fresh 0)).key ≡ Some place =
            ap (place_of (keys_of engine.records)) (sym key_is)
            ∙ subst (λ keys. place_of keys (get_or keys place 0) ≡ Some place) told.placed
            (told.reached.distinct place (let all = ap length told.placed in let same = length-map engine.records (λ (k : Kept). k.key) in omega (arith, all, same))) in
            by_pending (get_or engine.records place (fresh 0))
            (subst (λ (k : Kept). KeyTells k store (get_or engine.records place (fresh 0)).key) (kept-at engine.records (get_or engine.records place (fresh 0)).key place (fresh 0) at) (told.keys (get_or engine.records place (fresh 0)).key))
            (get_or engine.records place (fresh 0)).pending refl held

    pub commit_some : 0 < length (session_of engine s).written → (Committed (engine.clock + 1) ≡ call_reply limits store s Commit) × StoreTells (with_end engine s (Some (engine.clock + 1))) limits (store_after limits store s Commit)
    commit_some some = at (own_writes limits store s) refl
      where
        at : (writes : List Write) → own_writes limits store s ≡ writes → (Committed (engine.clock + 1) ≡ call_reply limits store s Commit) × StoreTells (with_end engine s (Some (engine.clock + 1))) limits (store_after limits store s Commit)
        at [] is = absurd (some_own some is)
        at (write ∷ writes) is = (
          ap (λ c. Committed (c + 1)) (sym told.clock) ∙ ap (end_reply store was) (sym is) ∙ ap (λ o. in_open o (λ t. end_reply store t (own_writes limits store s))) (sym now),
          subst (λ o. StoreTells (with_end engine s (Some (engine.clock + 1))) limits (after_commit limits store s o)) (sym now)
              (subst (λ ws. StoreTells (with_end engine s (Some (engine.clock + 1))) limits (with_commit store s was ws)) (sym is)
              (tells_committed engine limits store told s (low_limits engine limits store told s low whole) (within engine limits store told s low whole) was now write writes (λ key. sym (ap (acts_on key) is) ∙ own key))),
        )

-- an update or a delete fits where there is a row
pub change_misfits : (act : Act) → IsChange act → (row : Option (List Cell)) → misfit row act ≡ where_true (is_none row) Missing
change_misfits (Put cells) changes row = absurd changes
change_misfits (Set patch) changes row = refl
change_misfits Del changes row = refl
