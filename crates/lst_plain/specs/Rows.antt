-- What a record keeps of a key, and what can be read from it.
use Rattle.std.specs.Prelude.{ℕ, ◌-◌, List, [], ◌∷◌, ◌++◌, Bool, false, cond, Option, Some, None, unwrap_or, map, length, slice_get, nat_lt, nat_le, ◌==◌}
use Rattle.std.specs.Option.{option_map}
use Rattle.lst_model.specs.declared.replies.Cause.{Cause}
use Rattle.lst_model.specs.declared.replies.Cause.TheVariants.{Newer, Unfinished}
use Rattle.lst_model.specs.Cells.{Cell}
use Rattle.lst_plain.specs.declared.versions.Version.{Version}
use Rattle.lst_plain.specs.declared.versions.Pending.{Pending}

-- a key, its committed rows by rising time, and the row that an open transaction has made
pub record Kept : Type 0 where
  pub key : ℕ
  pub versions : List Version
  pub pending : Option Pending

-- the record of a key without rows
abbrev pub fresh : ℕ → Kept
fresh key = record { key = key; versions = []; pending = None }

-- the row that the last of the versions up to a time has, or else this row
abbrev pub row_from_versions : Option (List Cell) → List Version → ℕ → Option (List Cell)
row_from_versions row [] time = row
row_from_versions row (version ∷ versions) time = row_from_versions (cond (nat_le version.time time) version.row row) versions time

-- the row as of a time
abbrev pub row_at : List Version → ℕ → Option (List Cell)
row_at versions time = row_from_versions None versions time

-- the time of the last version, or 0
abbrev pub newest : List Version → ℕ
newest versions = unwrap_or (option_map (λ (version : Version). version.time) (slice_get versions (length versions - 1))) 0

-- whether it is a session's open transaction that has made the pending row
abbrev pub is_held : Option Pending → ℕ → Bool
is_held None session = false
is_held (Some pending) session = pending.session == session

abbrev pub row_beside : Option Pending → Option (List Cell) → ℕ → Option (List Cell)
row_beside None row session = row
row_beside (Some pending) row session = cond (pending.session == session) pending.row row

-- the row that a session's transaction with this begin sees
abbrev pub row_seen : Kept → ℕ → ℕ → Option (List Cell)
row_seen kept session begin = row_beside kept.pending (row_at kept.versions begin) session

abbrev pub conflict_beside : Option Pending → ℕ → ℕ → ℕ → Option Cause
conflict_beside None time session begin = cond (nat_lt begin time) (Some (Newer time)) None
conflict_beside (Some pending) time session begin = cond (pending.session == session) None (Some (Unfinished pending.session pending.number))

-- what is in the way of a write by a session's transaction with this begin
abbrev pub conflict_in : Kept → ℕ → ℕ → Option Cause
conflict_in kept session begin = conflict_beside kept.pending (newest kept.versions) session begin

-- the record with this pending row
abbrev pub with_pending : Kept → Pending → Kept
with_pending kept pending = record kept { pending = Some pending }

-- the pending row becomes the version of a time, or is dropped where there is no time
abbrev pub settled_row : Option ℕ → Kept → Pending → Kept
settled_row None kept pending = record kept { pending = None }
settled_row (Some time) kept pending = record kept { versions = kept.versions ++ record { time = time; row = pending.row } ∷ []; pending = None }

abbrev pub settled_beside : Option Pending → Option ℕ → ℕ → Kept → Kept
settled_beside None time session kept = kept
settled_beside (Some pending) time session kept = cond (pending.session == session) (settled_row time kept pending) kept

-- the record after the end of a session's transaction, with a commit at this time or without one
abbrev pub settled : Option ℕ → ℕ → Kept → Kept
settled time session kept = settled_beside kept.pending time session kept

-- the keys of records, in order
abbrev pub keys_of : List Kept → List ℕ
keys_of records = map (λ (kept : Kept). kept.key) records

-- the record of a key, or a fresh one
abbrev pub kept_of : List Kept → ℕ → Kept
kept_of [] key = fresh key
kept_of (kept ∷ records) key = cond (kept.key == key) kept (kept_of records key)
