-- A session's pass: when its calls may be made, and what each answers.
use Rattle.std.specs.Prelude.{◌≡◌, ◌<◌, true}
use Rattle.lst_rule.specs.Rule.{knows, hosts}
use Rattle.lst_rule.specs.declared.store.Store.{Store}
use Rattle.lst_rule.specs.Stores.{IsSeatOf}
use Rattle.lst_refinement.specs.Crews.{IsIdle, IsPinnedWhereOpen}
use Rattle.lst_session.specs.declared.session.Session.{Session}

-- the session's seat is one of the store and hosts it, it has nothing in hand, and is pinned exactly while it has a transaction open
pub record IsReady (store : Store) (session : Session) : Type 0 where
  pub seat_of : IsSeatOf store session.seat
  pub host : hosts session.seat.view session.number ≡ true
  pub own : session.number < session.seat.view.limits.sessions
  pub idle : IsIdle (knows session.seat.view session.number)
  pub pinned : IsPinnedWhereOpen (knows session.seat.view session.number)
