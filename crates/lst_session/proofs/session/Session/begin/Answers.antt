use Rattle.lst_session.proofs.Answering.{ready, same_view, begun, begun_idle}
use Rattle.lst_session.proofs.Pinned.{begin_pinned}
use Rattle.lst_session.proofs.session.Session.begin.Goals as goal

pub returns-clause-ready : goal.returns-clause-ready
returns-clause-ready c = ready c.args.store.now c.args.self.now c.begin.new.seat c.requires.ready c.begin.ensures.seat c.begin.ensures.hosted
    (begun_idle c.args.self.now.seat.view c.begin.new.seat.view c.args.self.now.number c.begin.result c.begin.ensures.ok (same_view c.args.self.now.seat c.begin.new.seat c.begin.result c.begin.ensures.err) c.requires.ready.idle)
    (begin_pinned c.args.self.now.seat.view c.begin.new.seat.view c.args.self.now.number c.requires.ready.pinned c.begin.result
    (begun c.args.self.now.seat.view c.begin.new.seat.view c.args.self.now.number c.begin.result c.begin.ensures.ok) (same_view c.args.self.now.seat c.begin.new.seat c.begin.result c.begin.ensures.err))

pub returns-clause-ok : goal.returns-clause-ok
returns-clause-ok c = begun c.args.self.now.seat.view c.begin.new.seat.view c.args.self.now.number c.begin.result c.begin.ensures.ok
