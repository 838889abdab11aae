-- The last tail of the range of a key.
use Rattle.std.specs.Prelude.{ℕ, ◌/◌, List, Option, Some, None, slice_index}
use Rattle.lst_model.specs.declared.lines.Call.{Call}
use Rattle.lst_model.specs.declared.lines.Call.TheVariants.{Insert, Update, Delete}
use Rattle.lst_machine.specs.Writes.{place_of}
use Rattle.lst_plain.specs.declared.engine.Tail.{Tail}
use Rattle.lst_plain.specs.Rows.{keys_of}
use Rattle.lst_plain.specs.Engines.{EngineState}

-- the key that a call writes
abbrev pub key_of : Call → Option ℕ
key_of (Insert key row) = Some key
key_of (Update key patch) = Some key
key_of (Delete key) = Some key
key_of call = None

-- the last tail of the range of a place
abbrev pub tail_at : List ℕ → Option ℕ → Option Tail
tail_at accepted None = None
tail_at accepted (Some place) = Some (record { range = place / 256; number = slice_index accepted (place / 256) })

abbrev pub tail_of : EngineState → Option ℕ → Option Tail
tail_of engine None = None
tail_of engine (Some key) = tail_at engine.accepted (place_of (keys_of engine.records) key)
