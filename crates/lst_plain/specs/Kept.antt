-- The fields of a record: what they say, and what is kept of them.
use Rattle.std.specs.Prelude.{◌≡◌, ◌<◌, is_some, true}
use Rattle.std.specs.List.Sorted.{IsNonDecreasingBy}
use Rattle.std.specs.Vec.{vec_len, vec_capacity}
use Rattle.lst_plain.specs.declared.versions.Version.{Version}
use Rattle.lst_plain.specs.declared.record.Record.TheInside.{Inside}
use Rattle.lst_plain.specs.Rows.{Kept}

abbrev pub kept_in : Inside → Kept
kept_in fields = record { key = fields.key; versions = fields.versions.items; pending = fields.pending }

-- the times rise, and there is room for a pending row
pub record IsKept (fields : Inside) : Type 0 where
  pub rising : IsNonDecreasingBy (λ (version : Version). version.time) fields.versions.items
  pub room : is_some fields.pending ≡ true → vec_len fields.versions < vec_capacity fields.versions
