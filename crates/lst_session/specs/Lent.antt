-- The turn, lent with its session.
use Rattle.std.specs.Prelude.{◌≡◌, Result, Err}
use Rattle.lst_rule.specs.declared.store.Store.{Store}
use Rattle.lst_txn.specs.declared.ends.Turn.{Turn}
use Rattle.lst_session.specs.declared.kinds.CommitRefusal.{CommitRefusal}
use Rattle.lst_session.specs.declared.kinds.CommitRefusal.TheVariants.{Idle, Busy}
use Rattle.lst_session.specs.declared.session.Session.{Session}
use Rattle.lst_session.specs.Calls.{FindsHeld}
use Rattle.lst_session.specs.Held.{IsHeld}
use Rattle.lst_session.specs.Passes.{IsReady}

-- the session holds this turn
pub record HoldsTurn (store : Store) (session : Session) (turn : Turn) : Type 0 where
  pub held : IsHeld store session
  pub own : turn.session ≡ session.number

-- a session that was refused the turn: it is ready as before, and was only told that the commit word is held
pub record IsRefusedTurn (store : Store) (old : Session) {A : Type 0} (result : Result A CommitRefusal) (new : Session) : Type 0 where
  pub ready : IsReady store new
  pub number : new.number ≡ old.number
  pub busy : result ≡ Err Busy → FindsHeld old.seat.view new.seat.view old.number
  pub still : result ≡ Err Idle → new.seat.view ≡ old.seat.view
