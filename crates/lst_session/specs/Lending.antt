-- What a reader is that a session or a crew lends, and what becomes of a session, or of a crew, whose seat is lent, and of sessions that are lent.
use Rattle.std.specs.Prelude.{◌≡◌, ℕ, List, ◌++◌, length, take, drop, Result}
use Rattle.std.specs.Borrow.{MutBor, Fml, Array, Lends, LendsIfOk}
use Rattle.lst_rule.specs.Rule.{knows}
use Rattle.lst_rule.specs.Seats.{Sitting}
use Rattle.lst_rule.specs.declared.store.Store.{Store}
use Rattle.lst_rule.specs.contracts.seat.Seat.{the_row as seat_row}
use Rattle.lst_txn.specs.declared.ends.Idle.{Idle}
use Rattle.lst_walk.specs.Readers.{IsReader}
use Rattle.lst_session.specs.declared.session.Session.{Session}
use Rattle.lst_session.specs.contracts.session.Session.{the_row as session_row}
use Rattle.lst_session.specs.declared.crew.Crew.{Crew}
use Rattle.lst_session.specs.contracts.crew.Crew.{the_row as crew_row}
use Rattle.lst_session.specs.contracts.passes.Sessions.{the_row as sessions_row}

-- a reader as a session or a crew lends it between two calls: its transaction is open, and it has no record in hand
pub record IsLent (store : Store) (seat : Sitting) (s : ℕ) : Type 0 where
  pub reader : IsReader store seat s
  pub free : (knows seat.view s).placing.hand ≡ 0

abbrev pub with_seat : Session → Sitting → Session
with_seat session seat = record session { seat = seat }

abbrev pub with_crew_seat : Crew → Sitting → Crew
with_crew_seat crew seat = record crew { seat = seat }

-- it ends with the seat as that was left; where none was lent it ends as it was
abbrev pub LendsSeat : MutBor Session → Result (MutBor Sitting) Idle → Fml
LendsSeat session result = LendsIfOk session_row seat_row session result (with_seat session.now) session.now

abbrev pub LendsCrewSeat : MutBor Crew → Result (MutBor Sitting) Idle → Fml
LendsCrewSeat crew result = LendsIfOk crew_row seat_row crew result (with_crew_seat crew.now) crew.now

-- Sessions as others were left in their place. A slice keeps its length, so the others are as many, and then it is they
abbrev pub as_left : List Session → List Session → List Session
as_left sessions left = take (length sessions) (left ++ drop (length left) sessions)

-- they end as they were left
abbrev pub LendsSessions : MutBor (List Session) → MutBor (List Session) → Fml
LendsSessions sessions result = Lends sessions_row (Array session_row 0) sessions result (as_left sessions.now)
