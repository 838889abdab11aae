-- A session that has a seat of its own.
use Rattle.std.specs.Prelude.{◌≡◌, ℕ, true}
use Rattle.lst_rule.specs.declared.store.Store.{Store}
use Rattle.lst_rule.specs.Rule.{knows, hosts}
use Rattle.lst_rule.specs.Seats.{Sitting}
use Rattle.lst_rule.specs.Stores.{IsSeatOf}
use Rattle.lst_txn.specs.Transactions.{IsFree}

-- the seat hosts the session, which has no turn, no latch and no record in hand
pub record HasOwn (store : Store) (s : ℕ) (seat : Sitting) : Type 0 where
  pub seat_of : IsSeatOf store seat
  pub hosted : hosts seat.view s ≡ true
  pub free : IsFree (knows seat.view s)
  pub hand : (knows seat.view s).placing.hand ≡ 0
