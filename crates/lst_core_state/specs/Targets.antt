-- The words that a step is on, and what it stores there, of a state of the core.
use Rattle.std.specs.Prelude.{ℕ, ◌-◌, ◌+◌, ◌*◌}
use Rattle.lst_layout.specs.declared.limits.Limits.{Limits}
use Rattle.lst_core_state.specs.declared.events.Event.{Event}
use Rattle.lst_core_state.specs.declared.events.Event.TheVariants.{Stamp}
use Rattle.lst_core_state.specs.State.{Words, state_at}

-- the time that a stamp stores: that of the tail's transaction
abbrev pub time_for : Limits → Words → Event → ℕ
time_for l w (Stamp s range n) = state_at w (range * l.tails + n) - 1
time_for l w e = 0
