use Rattle.std.proofs.Common.{ap}
use Rattle.lst_rule.specs.Seats.{Sitting}
use Rattle.lst_session.proofs.Answering.{ready, opened, opened_idle}
use Rattle.lst_session.proofs.Pinned.{as_of_pinned}
use Rattle.lst_session.proofs.Turning.{is_ahead}
use Rattle.lst_session.proofs.session.Session.as_of.Goals as goal

pub returns-clause-ready : goal.returns-clause-ready
returns-clause-ready c = ready c.args.store.now c.args.self.now c.as_of.new.seat c.requires.ready c.as_of.ensures.seat c.as_of.ensures.hosted
    (opened_idle c.args.self.now.seat.view c.as_of.new.seat.view c.args.self.now.number c.args.time c.requires.ready.own c.as_of.result c.as_of.ensures.ok c.as_of.ensures.future (λ h. ap (λ (seat : Sitting). seat.view) (c.as_of.ensures.still h)) c.requires.ready.idle)
    (as_of_pinned c.args.self.now.seat.view c.as_of.new.seat.view c.args.self.now.number c.requires.ready.pinned c.args.time c.as_of.result
    (opened c.args.self.now.seat.view c.as_of.new.seat.view c.args.self.now.number c.args.time c.requires.ready.own c.as_of.result c.as_of.ensures.ok)
    (λ clock is. is_ahead c.args.self.now.seat.view c.as_of.new.seat.view c.args.self.now.number clock c.args.time (c.as_of.ensures.future clock is).0 (c.as_of.ensures.future clock is).1)
    (λ h. ap (λ (seat : Sitting). seat.view) (c.as_of.ensures.still h)))

pub returns-clause-ok : goal.returns-clause-ok
returns-clause-ok c = opened c.args.self.now.seat.view c.as_of.new.seat.view c.args.self.now.number c.args.time c.requires.ready.own c.as_of.result c.as_of.ensures.ok

pub returns-clause-future : goal.returns-clause-future
returns-clause-future c = λ clock is. is_ahead c.args.self.now.seat.view c.as_of.new.seat.view c.args.self.now.number clock c.args.time (c.as_of.ensures.future clock is).0 (c.as_of.ensures.future clock is).1
