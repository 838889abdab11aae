use Rattle.lst_session.proofs.Answering.{ready}
use Rattle.lst_session.proofs.Keeping.{abort_idle}
use Rattle.lst_session.proofs.Pinned.{abort_pinned}
use Rattle.lst_session.proofs.Promising.{aborted, not_aborted}
use Rattle.lst_session.proofs.session.Session.abort.Goals as goal

pub returns-clause-ready : goal.returns-clause-ready
returns-clause-ready c = ready c.args.store.now c.args.self.now c.abort.new.seat c.requires.ready c.abort.ensures.seat c.abort.ensures.hosted
    (abort_idle c.args.self.now.seat c.abort.new.seat c.args.self.now.number c.abort.result c.abort.ensures.ok c.abort.ensures.err c.requires.ready.idle)
    (abort_pinned c.args.self.now.seat.view c.abort.new.seat.view c.args.self.now.number c.requires.ready.pinned c.abort.result
    (aborted c.args.self.now.seat c.abort.new.seat c.args.self.now.number c.abort.result c.abort.ensures.ok c.abort.ensures.idle)
    (not_aborted c.args.self.now.seat c.abort.new.seat c.args.self.now.number c.abort.result c.abort.ensures.idle c.abort.ensures.err))

pub returns-clause-ok : goal.returns-clause-ok
returns-clause-ok c = aborted c.args.self.now.seat c.abort.new.seat c.args.self.now.number c.abort.result c.abort.ensures.ok c.abort.ensures.idle
