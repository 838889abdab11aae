use Rattle.lst_session.proofs.Crewed.{crew_view, told_by}
use Rattle.lst_session.proofs.Ending.{is_free, abort_answers}
use Rattle.lst_session.proofs.Keeping.{crew_on, abort_called, abort_idle}
use Rattle.lst_session.proofs.Paged.{abort_paged}
use Rattle.lst_session.proofs.Pinned.{abort_pinned}
use Rattle.lst_session.proofs.Promising.{aborted, not_aborted}
use Rattle.lst_session.proofs.crew.Crew.abort.Goals as goal

pub abort-requires-clause-host : goal.abort-requires-clause-host
abort-requires-clause-host c = c.requires.crew.hosted c.args.s c.requires.session

pub abort-requires-clause-free : goal.abort-requires-clause-free
abort-requires-clause-free c = is_free c.args.self.now.seat.view c.args.s (c.requires.crew.idle c.args.s c.requires.session)

pub abort-requires-clause-pinned : goal.abort-requires-clause-pinned
abort-requires-clause-pinned c = c.requires.crew.pinned c.args.s c.requires.session

pub returns-clause-crew : goal.returns-clause-crew
returns-clause-crew c = crew_on c.args.store.now c.args.self.now c.abort.new.seat c.args.s c.requires.crew c.abort.ensures.seat c.requires.session
    (abort_called c.args.self.now.seat.view c.abort.new.seat.view c.args.s c.abort.result
    (aborted c.args.self.now.seat c.abort.new.seat c.args.s c.abort.result c.abort.ensures.ok c.abort.ensures.idle)
    (not_aborted c.args.self.now.seat c.abort.new.seat c.args.s c.abort.result c.abort.ensures.idle c.abort.ensures.err))
    (abort_idle c.args.self.now.seat c.abort.new.seat c.args.s c.abort.result c.abort.ensures.ok c.abort.ensures.err (c.requires.crew.idle c.args.s c.requires.session))
    (abort_pinned c.args.self.now.seat.view c.abort.new.seat.view c.args.s (c.requires.crew.pinned c.args.s c.requires.session) c.abort.result
    (aborted c.args.self.now.seat c.abort.new.seat c.args.s c.abort.result c.abort.ensures.ok c.abort.ensures.idle)
    (not_aborted c.args.self.now.seat c.abort.new.seat c.args.s c.abort.result c.abort.ensures.idle c.abort.ensures.err))

pub returns-clause-machine : goal.returns-clause-machine
returns-clause-machine c tells = told_by c.abort.new.seat.view (abort_paged c.args.self.now.seat.view c.abort.new.seat.view c.args.s c.requires.session c.abort.result
    (aborted c.args.self.now.seat c.abort.new.seat c.args.s c.abort.result c.abort.ensures.ok c.abort.ensures.idle)
    (not_aborted c.args.self.now.seat c.abort.new.seat c.args.s c.abort.result c.abort.ensures.idle c.abort.ensures.err))
    (abort_answers c.args.self.now.seat c.abort.new.seat c.args.s c.abort.result (crew_view c.args.store.now c.args.self.now c.requires.crew tells) c.consider.ensures c.requires.session c.abort.ensures.ok c.abort.ensures.idle c.abort.ensures.err)

pub returns-clause-ok : goal.returns-clause-ok
returns-clause-ok c = aborted c.args.self.now.seat c.abort.new.seat c.args.s c.abort.result c.abort.ensures.ok c.abort.ensures.idle

pub returns-clause-err : goal.returns-clause-err
returns-clause-err c = not_aborted c.args.self.now.seat c.abort.new.seat c.args.s c.abort.result c.abort.ensures.idle c.abort.ensures.err
