use Rattle.lst_session.proofs.Spending.{returned_looks, returned_ready}
use Rattle.lst_session.proofs.session.Session.give_back_turn.Goals as goal

pub returns-clause-ready : goal.returns-clause-ready
returns-clause-ready c = returned_ready c.args.store.now c.args.self.now c.give_back.new.seat c.requires.held c.give_back.ensures.seat c.give_back.ensures.returns

pub returns-clause-gives : goal.returns-clause-gives
returns-clause-gives c = c.give_back.ensures.returns.made

pub returns-clause-looks : goal.returns-clause-looks
returns-clause-looks c = returned_looks c.args.self.now.seat.view c.give_back.new.seat.view c.args.self.now.number c.give_back.ensures.returns
