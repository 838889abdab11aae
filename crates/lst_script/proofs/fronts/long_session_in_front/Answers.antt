use Rattle.lst_script.proofs.Beginnings.{session_here}
use Rattle.lst_script.proofs.fronts.long_session_in_front.Goals as goal

pub returns : goal.returns
returns c = session_here c.args.text.now c.in_ok-number.rest.now c.in_ok-call.call.now c.in_ok-number.number c.in_ok-session.session c.args.sessions c.in_ok-number.ensures c.in_ok-session.ensures.is c.in_ok-session.ensures.within c.in_ok-call.ensures
