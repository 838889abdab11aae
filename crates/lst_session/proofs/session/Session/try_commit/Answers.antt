use Rattle.lst_session.proofs.Answering.{ready}
use Rattle.lst_session.proofs.Turning.{committed, ended, finds_held, tried_idle, tried_hosted}
use Rattle.lst_session.proofs.Pinned.{tried_pinned}
use Rattle.lst_session.proofs.session.Session.try_commit.Goals as goal

pub returns-clause-ready : goal.returns-clause-ready
returns-clause-ready c = ready c.args.store.now c.args.self.now c.end.new.seat c.requires.ready c.end.ensures.seat
    (tried_hosted c.args.self.now.seat.view c.end.new.seat.view c.args.self.now.number c.end.result c.end.ensures.ok c.end.ensures.busy c.end.ensures.opened)
    (tried_idle c.args.self.now.seat.view c.end.new.seat.view c.args.self.now.number c.end.result c.end.ensures.ok c.end.ensures.busy c.end.ensures.opened c.requires.ready.idle)
    (tried_pinned c.args.self.now.seat.view c.end.new.seat.view c.args.self.now.number c.requires.ready.pinned c.end.result c.end.ensures.ok c.end.ensures.busy c.end.ensures.opened)

pub returns-clause-committed : goal.returns-clause-committed
returns-clause-committed c = committed c.args.self.now.seat.view c.end.new.seat.view c.args.self.now.number c.end.result c.end.ensures.ok

pub returns-clause-ended : goal.returns-clause-ended
returns-clause-ended c = ended c.args.self.now.seat.view c.end.new.seat.view c.args.self.now.number c.end.result c.end.ensures.ok

pub returns-clause-busy : goal.returns-clause-busy
returns-clause-busy c = λ is. finds_held c.args.self.now.seat.view c.end.new.seat.view c.args.self.now.number (c.end.ensures.busy is)
