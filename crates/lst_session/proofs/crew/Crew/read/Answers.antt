use Rattle.lst_session.proofs.Lent.{crew_still}
use Rattle.lst_session.proofs.crew.Crew.read.Goals as goal

pub returns-clause-crew : goal.returns-clause-crew
returns-clause-crew g c = (crew_still c.args.store.now c.args.self.now c.read.new.reader.seat.now c.args.s c.requires.crew c.read.ensures.seat c.requires.session c.read.ensures.watched).0

pub returns-clause-state : goal.returns-clause-state
returns-clause-state g c = (crew_still c.args.store.now c.args.self.now c.read.new.reader.seat.now c.args.s c.requires.crew c.read.ensures.seat c.requires.session c.read.ensures.watched).1
