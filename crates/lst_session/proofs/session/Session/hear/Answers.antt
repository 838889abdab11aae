use Rattle.lst_session.proofs.Telling.{ready_hears, hears_more}
use Rattle.lst_session.proofs.session.Session.hear.Goals as goal

pub hear-requires-clause-seat : goal.hear-requires-clause-seat
hear-requires-clause-seat c = c.requires.pass.seat_of

pub hear-requires-clause-note : goal.hear-requires-clause-note
hear-requires-clause-note c = c.requires.note

pub returns-clause-more : goal.returns-clause-more
returns-clause-more c = hears_more _ c.args.self.now _ c.args.note.seat c.requires.pass c.hear.ensures.seat c.hear.ensures.hears

pub returns-clause-heard : goal.returns-clause-heard
returns-clause-heard c = c.hear.ensures.hears.told c.args.self.now.number c.requires.pass.host

pub returns-clause-hears : goal.returns-clause-hears
returns-clause-hears c = c.hear.ensures.hears

pub returns-clause-ready : goal.returns-clause-ready
returns-clause-ready c = ready_hears _ _ _ (hears_more _ c.args.self.now _ c.args.note.seat c.requires.pass c.hear.ensures.seat c.hear.ensures.hears)
