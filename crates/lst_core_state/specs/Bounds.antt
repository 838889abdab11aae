-- The numbers fit their words.
use Rattle.std.specs.Prelude.{◌+◌, ◌-◌, ◌*◌, ◌<◌, ◌≤◌, ◌^◌}
use Rattle.lst_layout.specs.declared.limits.Limits.{Limits}
use Rattle.lst_core_state.specs.declared.events.Event.{Event}
use Rattle.lst_core_state.specs.declared.events.Event.TheVariants.{Begin, Install, Release}
use Rattle.lst_core_state.specs.Cells.{record_count, range_of}
use Rattle.lst_core_state.specs.declared.numbers.Numbers.{Numbers}

-- a begin isn't above what was seen
abbrev pub BeginFits : Numbers → Event → Type 0
BeginFits n (Begin s b r) = b ≤ n.seen
BeginFits n e = Unit {0}

-- the tail that is installed is one of its record's range
abbrev pub TailFits : Limits → Numbers → Event → Type 0
TailFits l n (Install s) = (range_of (n.hold.latch - 1) * l.tails < n.hold.tail) × (n.hold.tail ≤ range_of (n.hold.latch - 1) * l.tails + l.tails) × (0 < n.hold.latch)
TailFits l n e = Unit {0}

-- so is the tail that is put back
abbrev pub HeadFits : Numbers → Event → Type 0
HeadFits n (Release s) = n.hold.head < 2 ^ 32
HeadFits n e = Unit {0}

pub record IsWritable (l : Limits) (n : Numbers) (e : Event) : Type 0 where
  pub seen : n.seen < 2 ^ 32
  pub number : n.number < 2 ^ 31
  pub begin : BeginFits n e
  pub hold : n.hold.latch ≤ record_count l
  pub head : HeadFits n e
  pub tail : TailFits l n e
