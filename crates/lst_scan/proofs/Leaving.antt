-- A scan leaves sessions ready, and crews as they were.
use Rattle.lst_session.proofs.Lent.{only_looked, ready_still, crew_still}
use Rattle.lst_scan.specs.Leavings.{ReadersOnlyLook, SessionsStayReady, CrewsStay}

pub readers_only_look : ReadersOnlyLook
readers_only_look v w s own watched = only_looked v w s own watched

pub sessions_stay_ready : SessionsStayReady
sessions_stay_ready store session seat is of watched = ready_still store session seat is of watched

pub crews_stay : CrewsStay
crews_stay store crew seat s is of low watched = crew_still store crew seat s is of low watched
