-- Three sessions and the merger of one seat, as the tests drive them.
use Rattle.std.specs.Prelude.{◌≡◌, ℕ, ◌≤◌, List, true}
use Rattle.lst_core_state.specs.declared.pages.Retired.{Retired}
use Rattle.lst_rule.specs.declared.store.Store.{Store}
use Rattle.lst_rule.specs.Rule.{hosts}
use Rattle.lst_rule.specs.Seats.{Sitting}
use Rattle.lst_rule.specs.Stores.{IsSeatOf}
use Rattle.lst_rule.specs.Spares.{AreSpares}

-- the store has three sessions, its seat hosts each of them and the merger, and the spares are the merger's
pub record IsTrio (store : Store) (seat : Sitting) (spares : List Retired) : Type 0 where
  pub seat_of : IsSeatOf store seat
  pub three : seat.view.limits.sessions ≡ 3
  pub hosted : (s : ℕ) → s ≤ 3 → hosts seat.view s ≡ true
  pub are : AreSpares seat.view spares
