use Rattle.lst_session.proofs.Crewed.{crew_view, told_by}
use Rattle.lst_session.proofs.Beginning.{begin_answers}
use Rattle.lst_session.proofs.Answering.{begun, begun_idle, same_view}
use Rattle.lst_session.proofs.Keeping.{crew_on, begin_called}
use Rattle.lst_session.proofs.Paged.{begin_paged}
use Rattle.lst_session.proofs.Pinned.{begin_pinned}
use Rattle.lst_session.proofs.crew.Crew.begin.Goals as goal

pub begin-requires-clause-host : goal.begin-requires-clause-host
begin-requires-clause-host c = c.requires.crew.hosted c.args.s c.requires.session

pub begin-requires-clause-pinned : goal.begin-requires-clause-pinned
begin-requires-clause-pinned c = c.requires.crew.pinned c.args.s c.requires.session

pub returns-clause-crew : goal.returns-clause-crew
returns-clause-crew c = let e = c.begin.ensures in let same = same_view c.args.self.now.seat c.begin.new.seat c.begin.result e.err in crew_on c.args.store.now c.args.self.now c.begin.new.seat c.args.s c.requires.crew e.seat c.requires.session
    (begin_called c.args.self.now.seat.view c.begin.new.seat.view c.args.s c.begin.result (begun c.args.self.now.seat.view c.begin.new.seat.view c.args.s c.begin.result e.ok) same)
    (begun_idle c.args.self.now.seat.view c.begin.new.seat.view c.args.s c.begin.result e.ok same (c.requires.crew.idle c.args.s c.requires.session))
    (begin_pinned c.args.self.now.seat.view c.begin.new.seat.view c.args.s (c.requires.crew.pinned c.args.s c.requires.session) c.begin.result (begun c.args.self.now.seat.view c.begin.new.seat.view c.args.s c.begin.result e.ok) same)

pub returns-clause-machine : goal.returns-clause-machine
returns-clause-machine c tells = let e = c.begin.ensures in told_by c.begin.new.seat.view (begin_paged c.args.self.now.seat.view c.begin.new.seat.view c.args.s c.requires.session c.requires.crew.merger c.begin.result (begun c.args.self.now.seat.view c.begin.new.seat.view c.args.s c.begin.result e.ok) (same_view c.args.self.now.seat c.begin.new.seat c.begin.result e.err))
    (begin_answers c.args.self.now.seat c.begin.new.seat c.args.s (crew_view c.args.store.now c.args.self.now c.requires.crew tells) c.consider.ensures c.requires.session c.begin.result e.ok e.active e.spent e.future e.err)

pub returns-clause-ok : goal.returns-clause-ok
returns-clause-ok c = begun c.args.self.now.seat.view c.begin.new.seat.view c.args.s c.begin.result c.begin.ensures.ok
