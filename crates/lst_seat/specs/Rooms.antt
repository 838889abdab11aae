-- The memory of seats that are to be split off.
use Rattle.std.specs.Prelude.{◌≡◌, ℕ, ◌-◌, ◌<◌, ◌≤◌, List, [], length, slice_index_or}
use Rattle.std.specs.Vec.{vec_len, vec_capacity}
use Rattle.lst_rule.specs.declared.splits.Room.{Room}
use Rattle.lst_rule.specs.declared.view.View.{View}
use Rattle.lst_rule.specs.Joins.{Serves}
use Rattle.lst_seat.specs.declared.parts.Memory.{Memory}

-- rooms for the last sessions, the last first
pub record AreRooms (v : View) (rooms : List Room) : Type 0 where
  pub few : length rooms ≤ v.limits.sessions
  pub each : (k : ℕ) (none : Room) → k < length rooms → Serves (slice_index_or rooms k none) v (v.limits.sessions - 1 - k)

-- a room for each session, and a place for each seat in an empty list
pub record IsEnough (v : View) (memory : Memory) : Type 0 where
  pub count : length memory.rooms.items ≡ v.limits.sessions
  pub rooms : AreRooms v memory.rooms.items
  pub none : memory.seats.items ≡ []
  pub empty : vec_len memory.seats ≡ 0
  pub wide : v.limits.sessions ≤ vec_capacity memory.seats
