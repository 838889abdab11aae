use Rattle.lst_scan.proofs.Sessioning.{after_call}
use Rattle.lst_scan.proofs.sessions.session_line.Goals as goal

pub returns-clause-after : goal.returns-clause-after
returns-clause-after g c = after_call c.args.store.now c.args.session.now c.answered.new.session.seat.view c.args.call.now c.answered.result c.requires.ready c.consider.ensures c.answered.ensures.called c.answered.ensures.leaves
