use Rattle.lst_session.proofs.Spending.{sees_history, asked_looks, still_held}
use Rattle.lst_session.proofs.session.Session.changed.Goals as goal

pub returns-clause-held : goal.returns-clause-held
returns-clause-held c = still_held c.args.store.now c.args.self.now c.changed.new.seat c.requires.held c.changed.ensures.holder c.changed.ensures.asks

pub returns-clause-looks : goal.returns-clause-looks
returns-clause-looks c = asked_looks c.args.self.now.seat.view c.changed.new.seat.view c.args.self.now.number c.requires.held.holder.own c.changed.ensures.asks

pub returns-clause-history : goal.returns-clause-history
returns-clause-history c = sees_history c.args.store.now c.changed.new.seat c.args.self.now.number c.changed.ensures.holder
