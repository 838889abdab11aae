-- Two sessions that one seat hosts, which the tests operate against each other: how they are between the calls.
use Rattle.std.specs.Prelude.{◌≡◌, ℕ, ◌<◌, true, false}
use Rattle.lst_core_state.specs.declared.known.Known.{Known}
use Rattle.lst_core_state.specs.State.{rank}
use Rattle.lst_rule.specs.Rule.{knows, hosts}
use Rattle.lst_rule.specs.declared.store.Store.{Store}
use Rattle.lst_rule.specs.Seats.{Sitting}
use Rattle.lst_rule.specs.Stores.{IsSeatOf}

-- no record, no turn and no latch is in hand
pub record IsIdle (k : Known) : Type 0 where
  pub hand : k.placing.hand ≡ 0
  pub away : rank k.turn ≡ 0
  pub free : k.hold.latch ≡ 0

-- the store has two columns and two sessions, the seat hosts both, and each is idle
pub record IsPair (store : Store) (seat : Sitting) : Type 0 where
  pub seat_of : IsSeatOf store seat
  pub columns : store.layout.limits.columns ≡ 2
  pub sessions : store.layout.limits.sessions ≡ 2
  pub hosted : (s : ℕ) → s < 2 → hosts seat.view s ≡ true
  pub idle : (s : ℕ) → s < 2 → IsIdle (knows seat.view s)

-- the session has a transaction open that may write
pub record MayWrite (k : Known) : Type 0 where
  pub on : k.is_open ≡ true
  pub writes : k.read_only ≡ false
