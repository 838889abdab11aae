use Rattle.std.proofs.Common.{◌≡◌, false, take}
use Rattle.lst_session.specs.Parting.{has_number}
use Rattle.lst_session.proofs.gathers.has_number.Given as goal

abbrev pub invariant-loop-session : goal.invariant-loop-session
invariant-loop-session l = has_number (take l.session-index l.sessions) l.s ≡ false
