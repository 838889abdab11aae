-- Two sessions that one seat hosts, which the tests drive against each other.
use Rattle.std.specs.Prelude.{◌≡◌, ℕ, ◌<◌, true}
use Rattle.lst_rule.specs.Rule.{knows, hosts}
use Rattle.lst_rule.specs.declared.store.Store.{Store}
use Rattle.lst_rule.specs.Seats.{Sitting}
use Rattle.lst_rule.specs.Stores.{IsSeatOf}

-- the session has no record in hand
abbrev pub IsIdle : Sitting → ℕ → Type 0
IsIdle seat s = (knows seat.view s).placing.hand ≡ 0

-- the store has two sessions, the seat hosts both, and the second has no record in hand
pub record IsPair (store : Store) (seat : Sitting) : Type 0 where
  pub seat_of : IsSeatOf store seat
  pub two : store.layout.limits.sessions ≡ 2
  pub hosted : (s : ℕ) → s < 2 → hosts seat.view s ≡ true
  pub second : IsIdle seat 1
