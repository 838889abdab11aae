use Rattle.std.proofs.Common.{sym, ap, ◌∙◌, Err}
use Rattle.lst_session.proofs.Crewed.{crew_view, told_by}
use Rattle.lst_session.proofs.Committing.{end_answers}
use Rattle.lst_session.proofs.Keeping.{crew_on, end_called, end_idle, never_held}
use Rattle.lst_session.proofs.Paged.{end_paged}
use Rattle.lst_session.proofs.Pinned.{end_pinned}
use Rattle.lst_session.proofs.Promising.{committed, ended}
use Rattle.lst_session.proofs.crew.Crew.commit.Goals as goal

pub is_open-requires : goal.is_open-requires
is_open-requires c = c.requires.crew.hosted c.args.s c.requires.session

pub end-requires-clause-host : goal.end-requires-clause-host
end-requires-clause-host c = c.requires.crew.hosted c.args.s c.requires.session

pub end-requires-clause-pinned : goal.end-requires-clause-pinned
end-requires-clause-pinned c = c.requires.crew.pinned c.args.s c.requires.session

pub unreachable-requires : goal.unreachable-requires
unreachable-requires c = never_held c.args.store.now c.args.self.now c.end.new.seat.view c.args.s c.requires.crew (c.in-Err-Busy.ensures.busy (ap Err c.in-Err-Busy.field-0-is))

pub returns-clause-crew : goal.returns-clause-crew
returns-clause-crew c = crew_on c.args.store.now c.args.self.now c.end.new.seat c.args.s c.requires.crew c.end.ensures.seat c.requires.session
    (end_called c.args.self.now.seat.view c.end.new.seat.view c.args.s c.in-Ok.outcome c.in-Ok.ensures.ok)
    (end_idle c.args.self.now.seat.view c.end.new.seat.view c.args.s c.in-Ok.outcome c.in-Ok.ensures.ok (c.requires.crew.idle c.args.s c.requires.session))
    (end_pinned c.args.self.now.seat.view c.end.new.seat.view c.args.s (c.requires.crew.pinned c.args.s c.requires.session) c.in-Ok.outcome c.in-Ok.ensures.ok)

pub returns-clause-machine : goal.returns-clause-machine
returns-clause-machine c tells = told_by c.end.new.seat.view (end_paged c.args.self.now.seat.view c.end.new.seat.view c.args.s c.requires.session (sym c.is_open.ensures ∙ c.if-not-is_open.false) c.in-Ok.outcome c.in-Ok.ensures.ok)
    (end_answers c.args.self.now.seat.view c.end.new.seat.view c.args.s (crew_view c.args.store.now c.args.self.now c.requires.crew tells) c.consider.ensures c.requires.session (sym c.is_open.ensures ∙ c.if-not-is_open.false) c.in-Ok.outcome c.in-Ok.ensures.ok)

pub returns-clause-committed : goal.returns-clause-committed
returns-clause-committed c = committed c.args.self.now.seat.view c.end.new.seat.view c.args.s c.in-Ok.outcome c.in-Ok.ensures.ok

pub returns-clause-ended : goal.returns-clause-ended
returns-clause-ended c = ended c.args.self.now.seat.view c.end.new.seat.view c.args.s c.in-Ok.outcome c.in-Ok.ensures.ok
