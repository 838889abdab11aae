use Rattle.lst_session.proofs.Telling.{hear_more, heard_of}
use Rattle.lst_session.proofs.phases.hear_from.Goals as goal

pub returns-clause-more : goal.returns-clause-more
returns-clause-more c = hear_more c.args.store.now c.args.sessions.now c.args.hearer c.args.teller c.requires.sessions c.requires.hearer c.requires.teller c.tell-note.result.seat c.index-sessions-teller.result c.index-sessions-hearer.result c.tell-note.new.self c.hear.new.self
    c.tell-note.ensures.same c.tell-note.ensures.note c.hear.ensures.more c.hear.ensures.hears

pub returns-clause-heard : goal.returns-clause-heard
returns-clause-heard c = heard_of c.args.store.now c.args.sessions.now c.args.hearer c.args.teller c.requires.sessions c.requires.hearer c.requires.teller c.tell-note.result.seat c.index-sessions-teller.result c.index-sessions-hearer.result c.tell-note.new.self c.hear.new.self
    c.tell-note.ensures.same c.tell-note.ensures.note c.hear.ensures.more c.hear.ensures.hears
