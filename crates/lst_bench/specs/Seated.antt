-- A seat that hosts session 0, in a loop.
use Rattle.std.specs.Prelude.{◌≡◌, ◌<◌, true}
use Rattle.lst_core_state.specs.declared.known.Stage.TheVariants.{Away}
use Rattle.lst_rule.specs.Rule.{knows, hosts}
use Rattle.lst_rule.specs.declared.store.Store.{Store}
use Rattle.lst_rule.specs.Seats.{Sitting}
use Rattle.lst_rule.specs.Stores.{IsSeatOf}

pub record Stays (store : Store) (seat : Sitting) : Type 0 where
  pub seat_of : IsSeatOf store seat
  pub host : hosts seat.view 0 ≡ true

-- and which holds no turn and no latch
pub record Rests (store : Store) (seat : Sitting) : Type 0 where
  pub seat_of : IsSeatOf store seat
  pub host : hosts seat.view 0 ≡ true
  pub own : 0 < seat.view.limits.sessions
  pub away : (knows seat.view 0).turn ≡ Away
  pub unlatched : (knows seat.view 0).hold.latch ≡ 0
