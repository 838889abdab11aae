use Rattle.std.proofs.Common.{ap}
use Rattle.lst_rule.specs.Seats.{Sitting}
use Rattle.lst_session.proofs.Spending.{took_turn, took_history, refused_ready}
use Rattle.lst_session.proofs.Turning.{finds_held}
use Rattle.lst_session.proofs.session.Session.take_turn.Goals as goal

pub returns-clause-ok : goal.returns-clause-ok
returns-clause-ok c = took_turn c.args.store.now c.args.self.now c.take.new.seat c.requires.ready c.requires.writes c.take.result c.take.ensures.ok

pub returns-clause-history : goal.returns-clause-history
returns-clause-history c = took_history c.args.store.now c.args.self.now c.take.new.seat c.requires.ready c.requires.writes c.take.result c.take.ensures.ok

pub returns-clause-ready : goal.returns-clause-ready
returns-clause-ready c = refused_ready c.args.store.now c.args.self.now c.take.new.seat c.take.result c.requires.ready c.take.ensures.seat c.take.ensures.still c.take.ensures.busy

pub returns-clause-busy : goal.returns-clause-busy
returns-clause-busy c is = finds_held c.args.self.now.seat.view c.take.new.seat.view c.args.self.now.number (c.take.ensures.busy is)

pub returns-clause-still : goal.returns-clause-still
returns-clause-still c is = ap (λ (seat : Sitting). seat.view) (c.take.ensures.still is)
