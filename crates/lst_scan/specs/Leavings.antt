-- What a scan leaves of the session, or of the crew, at whose seat it was made.
use Rattle.std.specs.Prelude.{◌≡◌, ℕ, ◌<◌}
use Rattle.lst_rule.specs.declared.view.View.{View}
use Rattle.lst_rule.specs.declared.store.Store.{Store}
use Rattle.lst_rule.specs.Seats.{Sitting}
use Rattle.lst_rule.specs.Stores.{IsSeatOf}
use Rattle.lst_rule.specs.Watching.{Watched}
use Rattle.lst_session.specs.declared.session.Session.{Session}
use Rattle.lst_session.specs.declared.crew.Crew.{Crew}
use Rattle.lst_session.specs.Calls.{OnlyLooks, FindsNoneFull}
use Rattle.lst_session.specs.Passes.{IsReady}
use Rattle.lst_session.specs.Crews.{IsCrewOf, TellsState, state_told}
use Rattle.lst_session.specs.Lending.{with_seat, with_crew_seat}

-- the session has only looked, and found no counter full
abbrev pub ReadersOnlyLook : Type 0
ReadersOnlyLook = (v w : View) (s : ℕ) → s < v.limits.sessions → Watched v w s → OnlyLooks v w s × FindsNoneFull v w s

-- a session that was ready is so with the seat as it was left
abbrev pub SessionsStayReady : Type 0
SessionsStayReady = (store : Store) (session : Session) (seat : Sitting) → IsReady store session → IsSeatOf store seat → Watched session.seat.view seat.view session.number → IsReady store (with_seat session seat)

-- and a crew is between two calls again. Where it told a state of the machine, it tells the same one
abbrev pub CrewsStay : Type 0
CrewsStay = (store : Store) (crew : Crew) (seat : Sitting) (s : ℕ) → IsCrewOf store crew → IsSeatOf store seat → s < crew.seat.view.limits.sessions → Watched crew.seat.view seat.view s
    → IsCrewOf store (with_crew_seat crew seat) × (TellsState crew.seat.view → TellsState seat.view × (state_told seat.view ≡ state_told crew.seat.view))
