-- What a line changes of an engine, and why it is refused.
use Rattle.std.specs.Prelude.{ℕ, ◌+◌, ◌*◌, ◌/◌, List, [], ◌∷◌, ◌++◌, Bool, cond, Option, Some, None, unwrap_or, map, length, slice_index, slice_index_or, slice_set, nat_le}
use Rattle.lst_model.specs.declared.acts.Act.{Act}
use Rattle.lst_model.specs.declared.replies.Reply.{Reply}
use Rattle.lst_model.specs.declared.replies.Reply.TheVariants.{Done, Refused}
use Rattle.lst_model.specs.declared.replies.Cause.{Cause}
use Rattle.lst_model.specs.declared.replies.Cause.TheVariants.{Active, Spent, TableFull, TailFull}
use Rattle.lst_model.specs.Cells.{Cell}
use Rattle.lst_model.specs.Histories.{row_after}
use Rattle.lst_machine.specs.Calls.{first_of, where_true, refused_or}
use Rattle.lst_machine.specs.Changes.{misfit}
use Rattle.lst_machine.specs.declared.answers.Transaction.{Transaction}
use Rattle.lst_plain.specs.Rows.{Kept, fresh, row_seen, conflict_in, with_pending, settled, is_held}
use Rattle.lst_plain.specs.Sessions.{SessionState, noted_places}
use Rattle.lst_plain.specs.Engines.{EngineState, session_of, is_open}

abbrev pub refusal_of_begin : EngineState → ℕ → Option Cause
refusal_of_begin engine session =
    first_of (where_true (is_open (session_of engine session)) Active
    ∷ where_true (nat_le engine.limits.txns (session_of engine session).begins) Spent
    ∷ [])

-- the engine with one more transaction of a session, which is open
abbrev pub with_transaction : EngineState → ℕ → Transaction → EngineState
with_transaction engine session transaction = record engine { sessions = slice_set engine.sessions session (record (session_of engine session) { begins = (session_of engine session).begins + 1; transaction = Some transaction }) }

-- the engine with one more record
abbrev pub with_record : EngineState → ℕ → EngineState
with_record engine key = record engine { records = engine.records ++ fresh key ∷ [] }

abbrev pub kept_at : EngineState → ℕ → Kept
kept_at engine place = slice_index_or engine.records place (fresh 0)

-- what is asked of a write to the record at a place, by a session's transaction with this begin
abbrev pub refusal_of_write : EngineState → ℕ → ℕ → ℕ → Act → Option Cause
refusal_of_write engine session begin place act =
    first_of (conflict_in (kept_at engine place) session begin
    ∷ misfit (row_seen (kept_at engine place) session begin) act
    ∷ where_true (nat_le engine.limits.tails (slice_index engine.accepted (place / 256))) TailFull
    ∷ [])

-- the engine with a row that a session's transaction makes of the record at a place
abbrev pub with_write : EngineState → ℕ → ℕ → Option (List Cell) → EngineState
with_write engine session place row =
    let state : SessionState = session_of engine session in
    record engine {
      sessions = slice_set engine.sessions session (record state { written = noted_places (is_held (kept_at engine place).pending session) state.written place });
      records = slice_set engine.records place (with_pending (kept_at engine place) (record { session = session; number = state.begins; row = row }));
      accepted = slice_set engine.accepted (place / 256) (slice_index engine.accepted (place / 256) + 1);
    }

-- the same where nothing refuses the write
abbrev pub written_unless : Option Cause → EngineState → ℕ → ℕ → Option (List Cell) → EngineState
written_unless None engine session place row = with_write engine session place row
written_unless (Some cause) engine session place row = engine

-- the row that a session's transaction with this begin makes at a place
abbrev pub row_written : EngineState → ℕ → ℕ → ℕ → Act → Option (List Cell)
row_written engine session begin place act = row_after (row_seen (kept_at engine place) session begin) act

-- the reply to a write to the record at a place, and the engine after it
abbrev pub reply_to_write : EngineState → ℕ → ℕ → ℕ → Act → Reply
reply_to_write engine session begin place act = refused_or (refusal_of_write engine session begin place act) Done

abbrev pub after_write : EngineState → ℕ → ℕ → ℕ → Act → EngineState
after_write engine session begin place act = written_unless (refusal_of_write engine session begin place act) engine session place (row_written engine session begin place act)

-- whether each record has a key
abbrev pub is_full : EngineState → Bool
is_full engine = nat_le (256 * engine.limits.ranges) (length engine.records)

-- the same of a write to a key that has no record yet
abbrev pub reply_to_first : EngineState → ℕ → ℕ → ℕ → Act → Reply
reply_to_first engine session begin key act = cond (is_full engine) (Refused TableFull) (reply_to_write (with_record engine key) session begin (length engine.records) act)

abbrev pub after_first : EngineState → ℕ → ℕ → ℕ → Act → EngineState
after_first engine session begin key act = cond (is_full engine) engine (after_write (with_record engine key) session begin (length engine.records) act)

-- the engine after the end of a session's transaction, with a commit at this time or without one
abbrev pub with_end : EngineState → ℕ → Option ℕ → EngineState
with_end engine session time = record engine {
  clock = unwrap_or time engine.clock;
  sessions = slice_set engine.sessions session (record (session_of engine session) { transaction = None; written = [] });
  records = map (settled time session) engine.records;
}
