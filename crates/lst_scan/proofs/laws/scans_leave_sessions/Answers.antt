use Rattle.lst_scan.proofs.Leaving.{readers_only_look, sessions_stay_ready, crews_stay}
use Rattle.lst_scan.proofs.laws.scans_leave_sessions.Goals as goal

pub returns-clause-looks : goal.returns-clause-looks
returns-clause-looks c = readers_only_look

pub returns-clause-ready : goal.returns-clause-ready
returns-clause-ready c = sessions_stay_ready

pub returns-clause-crew : goal.returns-clause-crew
returns-clause-crew c = crews_stay
