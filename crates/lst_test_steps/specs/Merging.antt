-- Two pages of a seat that hosts the merger.
use Rattle.std.specs.Prelude.{◌≡◌, true}
use Rattle.lst_rule.specs.declared.store.Store.{Store}
use Rattle.lst_rule.specs.Rule.{hosts}
use Rattle.lst_rule.specs.Seats.{Sitting}
use Rattle.lst_rule.specs.Stores.{IsSeatOf}

-- the store has two ranges of one column, and its seat hosts the merger
pub record HasTwoPages (store : Store) (seat : Sitting) : Type 0 where
  pub seat_of : IsSeatOf store seat
  pub ranges : seat.view.limits.ranges ≡ 2
  pub columns : seat.view.limits.columns ≡ 1
  pub hosted : hosts seat.view seat.view.limits.sessions ≡ true
