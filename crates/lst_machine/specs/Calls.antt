-- The calls of a session: the answer is the first that applies, and the store part changes with it.
use Rattle.std.specs.Prelude.{ℕ, ◌+◌, ◌*◌, ◌^◌, bit_and, List, [], ◌∷◌, ◌++◌, Bool, true, false, cond, not, ◌&&◌, Option, Some, None, is_some, is_none, length, nat_lt, nat_le, ◌==◌}
use Rattle.lst_layout.specs.declared.limits.Limits.{Limits}
use Rattle.lst_model.specs.declared.acts.Act.{Act}
use Rattle.lst_model.specs.declared.acts.Act.TheVariants.{Put, Set, Del}
use Rattle.lst_model.specs.declared.acts.Write.{Write}
use Rattle.lst_model.specs.declared.commits.Commit.{Commit}
use Rattle.lst_model.specs.declared.lines.Call.{Call}
use Rattle.lst_model.specs.declared.lines.Call.TheVariants.{Begin, AsOf, Get, Insert, Update, Delete, Sum, Count, Scan, Find, Commit as CommitCall, Abort}
use Rattle.lst_model.specs.declared.replies.Reply.{Reply}
use Rattle.lst_model.specs.declared.replies.Reply.TheVariants.{Begun, Done, Row, Absent, Committed, Ended, Aborted, Sum as SumReply, Count as CountReply, Rows as RowsReply, Keys, Refused}
use Rattle.lst_model.specs.declared.replies.Cause.{Cause}
use Rattle.lst_model.specs.declared.replies.Cause.TheVariants.{Idle, Active, ReadOnly, Spent, Future, Missing, Exists, TableFull, TailFull, NotIndexed}
use Rattle.lst_model.specs.Cells.{Cell}
use Rattle.lst_model.specs.Tables.{row_of, sum_of, count_of, scan_of, find_of}
use Rattle.lst_machine.specs.State.{Accepted, Opened, Store}
use Rattle.lst_machine.specs.Writes.{put, put_in, is_placed, with_key, range_of, conflict_of, own_writes, sight_of}

-- the first of the causes that applies
abbrev pub first_of : List (Option Cause) → Option Cause
first_of [] = None
first_of (None ∷ causes) = first_of causes
first_of (Some cause ∷ causes) = Some cause

abbrev pub where_true : Bool → Cause → Option Cause
where_true applies cause = cond applies (Some cause) None

-- a refusal, or else this answer
abbrev pub refused_or : Option Cause → Reply → Reply
refused_or None reply = reply
refused_or (Some cause) reply = Refused cause

-- Idle where no transaction is open, or else what the open one is answered
abbrev pub in_open : Option Opened → (Opened → Reply) → Reply
in_open None answer = Refused Idle
in_open (Some transaction) answer = answer transaction

-- Begin and as-of

abbrev pub begin_refusal : Limits → Store → ℕ → Option Cause
begin_refusal limits store session =
    first_of (where_true (is_some (store.opened session)) Active
    ∷ where_true (nat_le limits.txns (store.begins session)) Spent
    ∷ [])

abbrev pub as_of_refusal : Limits → Store → ℕ → ℕ → Option Cause
as_of_refusal limits store session time =
    first_of (begin_refusal limits store session
    ∷ where_true (nat_lt (length store.history) time) (Future (length store.history))
    ∷ [])

abbrev pub with_opened : Store → ℕ → ℕ → Bool → Store
with_opened store session begin read_only = record store {
  begins = put store.begins session (store.begins session + 1);
  opened = put store.opened session (Some (record { begin = begin; read_only = read_only }));
}

abbrev pub opened_unless : Option Cause → Store → ℕ → ℕ → Bool → Store
opened_unless None store session begin read_only = with_opened store session begin read_only
opened_unless (Some cause) store session begin read_only = store

-- Reads

abbrev pub row_reply : Option (List Cell) → Reply
row_reply None = Absent
row_reply (Some row) = Row row

abbrev pub is_indexed : Limits → ℕ → Bool
is_indexed limits column = not (bit_and limits.indexed (2 ^ column) == 0)

-- Writes

-- what is asked of an insert before its key has a record
abbrev pub early_insert_refusal : Limits → Store → Opened → ℕ → Option Cause
early_insert_refusal limits store transaction key =
    first_of (where_true transaction.read_only ReadOnly
    ∷ where_true (not (is_placed store.placed key) && nat_le (256 * limits.ranges) (length store.placed)) TableFull
    ∷ [])

-- the store with the key placed
abbrev pub with_placed : Store → ℕ → Store
with_placed store key = record store { placed = with_key store.placed key }

abbrev pub is_range_full : Limits → Store → ℕ → Bool
is_range_full limits store key = nat_le limits.tails (length (store.accepted (range_of store.placed key)))

-- what is asked of an insert once its key has a record
abbrev pub late_insert_refusal : Limits → Store → ℕ → Opened → ℕ → Option Cause
late_insert_refusal limits store session transaction key =
    first_of (conflict_of store session transaction.begin key
    ∷ where_true (is_some (row_of (sight_of limits store session transaction.begin) key)) Exists
    ∷ where_true (is_range_full limits store key) TailFull
    ∷ [])

abbrev pub insert_refusal : Limits → Store → ℕ → Opened → ℕ → Option Cause
insert_refusal limits store session transaction key =
    first_of (early_insert_refusal limits store transaction key
    ∷ late_insert_refusal limits (with_placed store key) session transaction key
    ∷ [])

-- what is asked of an update and of a delete
abbrev pub change_refusal : Limits → Store → ℕ → Opened → ℕ → Option Cause
change_refusal limits store session transaction key =
    first_of (where_true transaction.read_only ReadOnly
    ∷ where_true (not (is_placed store.placed key)) Missing
    ∷ conflict_of store session transaction.begin key
    ∷ where_true (is_none (row_of (sight_of limits store session transaction.begin) key)) Missing
    ∷ where_true (is_range_full limits store key) TailFull
    ∷ [])

abbrev pub with_accepted : Store → ℕ → ℕ → Act → Store
with_accepted store session key act =
    let write : Write = record { key = key; act = act } in
    let accepted : Accepted = record { session = session; number = store.begins session; write = write } in
    let range : ℕ = range_of store.placed key in
    record store { accepted = put store.accepted range (store.accepted range ++ accepted ∷ []) }

abbrev pub accepted_unless : Option Cause → Store → ℕ → ℕ → Act → Store
accepted_unless None store session key act = with_accepted store session key act
accepted_unless (Some cause) store session key act = store

abbrev pub placed_unless : Option Cause → Store → ℕ → Store
placed_unless None store key = with_placed store key
placed_unless (Some cause) store key = store

abbrev pub after_insert : Limits → Store → ℕ → Option Opened → ℕ → Act → Store
after_insert limits store session None key act = store
after_insert limits store session (Some transaction) key act =
    accepted_unless (insert_refusal limits store session transaction key)
    (placed_unless (early_insert_refusal limits store transaction key) store key) session key act

abbrev pub after_change : Limits → Store → ℕ → Option Opened → ℕ → Act → Store
after_change limits store session None key act = store
after_change limits store session (Some transaction) key act =
    accepted_unless (change_refusal limits store session transaction key) store session key act

-- The end of a transaction

abbrev pub end_reply : Store → Opened → List Write → Reply
end_reply store transaction [] = Ended transaction.begin
end_reply store transaction (write ∷ writes) = Committed (length store.history + 1)

-- the open transaction ends without a commit
abbrev pub with_closed : Store → ℕ → Store
with_closed store session = record store {
  opened = put store.opened session None;
  closed = put_in store.closed session (store.begins session) true;
}

abbrev pub with_commit : Store → ℕ → Opened → List Write → Store
with_commit store session transaction [] = with_closed store session
with_commit store session transaction (write ∷ writes) =
    let commit : Commit = record { session = session; number = store.begins session; begin = transaction.begin; writes = write ∷ writes } in
    record store { history = store.history ++ commit ∷ []; opened = put store.opened session None }

abbrev pub after_commit : Limits → Store → ℕ → Option Opened → Store
after_commit limits store session None = store
after_commit limits store session (Some transaction) = with_commit store session transaction (own_writes limits store session)

abbrev pub after_abort : Store → ℕ → Option Opened → Store
after_abort store session None = store
after_abort store session (Some transaction) = with_closed store session

-- The answer to a call, and the store part after it

abbrev pub call_reply : Limits → Store → ℕ → Call → Reply
call_reply limits store session Begin = refused_or (begin_refusal limits store session) (Begun (length store.history))
call_reply limits store session (AsOf time) = refused_or (as_of_refusal limits store session time) (Begun time)
call_reply limits store session (Get key) = in_open (store.opened session) (λ transaction. row_reply (row_of (sight_of limits store session transaction.begin) key))
call_reply limits store session (Insert key row) = in_open (store.opened session) (λ transaction. refused_or (insert_refusal limits store session transaction key) Done)
call_reply limits store session (Update key patch) = in_open (store.opened session) (λ transaction. refused_or (change_refusal limits store session transaction key) Done)
call_reply limits store session (Delete key) = in_open (store.opened session) (λ transaction. refused_or (change_refusal limits store session transaction key) Done)
call_reply limits store session (Sum column) = in_open (store.opened session) (λ transaction. SumReply (sum_of (sight_of limits store session transaction.begin) column))
call_reply limits store session Count = in_open (store.opened session) (λ transaction. CountReply (count_of (sight_of limits store session transaction.begin)))
call_reply limits store session Scan = in_open (store.opened session) (λ transaction. RowsReply (scan_of (sight_of limits store session transaction.begin)))
call_reply limits store session (Find column number) = in_open (store.opened session) (λ transaction. refused_or (where_true (not (is_indexed limits column)) NotIndexed) (Keys (find_of (sight_of limits store session transaction.begin) column number)))
call_reply limits store session CommitCall = in_open (store.opened session) (λ transaction. end_reply store transaction (own_writes limits store session))
call_reply limits store session Abort = in_open (store.opened session) (λ transaction. Aborted)

abbrev pub store_after : Limits → Store → ℕ → Call → Store
store_after limits store session Begin = opened_unless (begin_refusal limits store session) store session (length store.history) false
store_after limits store session (AsOf time) = opened_unless (as_of_refusal limits store session time) store session time true
store_after limits store session (Get key) = store
store_after limits store session (Insert key row) = after_insert limits store session (store.opened session) key (Put row)
store_after limits store session (Update key patch) = after_change limits store session (store.opened session) key (Set patch)
store_after limits store session (Delete key) = after_change limits store session (store.opened session) key Del
store_after limits store session (Sum column) = store
store_after limits store session Count = store
store_after limits store session Scan = store
store_after limits store session (Find column number) = store
store_after limits store session CommitCall = after_commit limits store session (store.opened session)
store_after limits store session Abort = after_abort store session (store.opened session)
