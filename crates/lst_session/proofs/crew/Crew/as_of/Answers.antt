use Rattle.std.proofs.Common.{ap}
use Rattle.lst_rule.specs.Seats.{Sitting}
use Rattle.lst_session.proofs.Crewed.{crew_view, told_by}
use Rattle.lst_session.proofs.Beginning.{as_of_answers}
use Rattle.lst_session.proofs.Answering.{opened, opened_idle}
use Rattle.lst_session.proofs.Keeping.{crew_on, as_of_called}
use Rattle.lst_session.proofs.Paged.{as_of_paged}
use Rattle.lst_session.proofs.Pinned.{as_of_pinned}
use Rattle.lst_session.proofs.Turning.{is_ahead}
use Rattle.lst_session.proofs.crew.Crew.as_of.Goals as goal

pub as_of-requires-clause-host : goal.as_of-requires-clause-host
as_of-requires-clause-host c = c.requires.crew.hosted c.args.s c.requires.session

pub as_of-requires-clause-pinned : goal.as_of-requires-clause-pinned
as_of-requires-clause-pinned c = c.requires.crew.pinned c.args.s c.requires.session

pub returns-clause-crew : goal.returns-clause-crew
returns-clause-crew c = let e = c.as_of.ensures in crew_on c.args.store.now c.args.self.now c.as_of.new.seat c.args.s c.requires.crew e.seat c.requires.session
    (as_of_called c.args.self.now.seat.view c.as_of.new.seat.view c.args.s c.args.time c.as_of.result
    (opened c.args.self.now.seat.view c.as_of.new.seat.view c.args.s c.args.time c.requires.session c.as_of.result e.ok)
    (λ clock is. is_ahead c.args.self.now.seat.view c.as_of.new.seat.view c.args.s clock c.args.time (e.future clock is).0 (e.future clock is).1)
    (λ h. ap (λ (seat : Sitting). seat.view) (e.still h)))
    (opened_idle c.args.self.now.seat.view c.as_of.new.seat.view c.args.s c.args.time c.requires.session c.as_of.result e.ok e.future (λ h. ap (λ (seat : Sitting). seat.view) (e.still h)) (c.requires.crew.idle c.args.s c.requires.session))
    (as_of_pinned c.args.self.now.seat.view c.as_of.new.seat.view c.args.s (c.requires.crew.pinned c.args.s c.requires.session) c.args.time c.as_of.result
    (opened c.args.self.now.seat.view c.as_of.new.seat.view c.args.s c.args.time c.requires.session c.as_of.result e.ok)
    (λ clock is. is_ahead c.args.self.now.seat.view c.as_of.new.seat.view c.args.s clock c.args.time (e.future clock is).0 (e.future clock is).1)
    (λ h. ap (λ (seat : Sitting). seat.view) (e.still h)))

pub returns-clause-machine : goal.returns-clause-machine
returns-clause-machine c tells = let e = c.as_of.ensures in told_by c.as_of.new.seat.view (as_of_paged c.args.self.now.seat.view c.as_of.new.seat.view c.args.s c.requires.session c.requires.crew.merger c.args.time c.as_of.result
    (opened c.args.self.now.seat.view c.as_of.new.seat.view c.args.s c.args.time c.requires.session c.as_of.result e.ok)
    (λ clock is. is_ahead c.args.self.now.seat.view c.as_of.new.seat.view c.args.s clock c.args.time (e.future clock is).0 (e.future clock is).1)
    (λ h. ap (λ (seat : Sitting). seat.view) (e.still h)))
    (as_of_answers c.args.self.now.seat c.as_of.new.seat c.args.s (crew_view c.args.store.now c.args.self.now c.requires.crew tells) c.consider.ensures c.requires.session c.args.time c.as_of.result e.ok e.active e.spent e.future e.still)

pub returns-clause-ok : goal.returns-clause-ok
returns-clause-ok c = opened c.args.self.now.seat.view c.as_of.new.seat.view c.args.s c.args.time c.requires.session c.as_of.result c.as_of.ensures.ok

pub returns-clause-future : goal.returns-clause-future
returns-clause-future c = λ clock is. is_ahead c.args.self.now.seat.view c.as_of.new.seat.view c.args.s clock c.args.time (c.as_of.ensures.future clock is).0 (c.as_of.ensures.future clock is).1

pub as_of-requires-clause-seat : goal.as_of-requires-clause-seat
as_of-requires-clause-seat c = c.requires.crew.seat_of

pub as_of-requires-clause-own : goal.as_of-requires-clause-own
as_of-requires-clause-own c = c.requires.session

pub returns-clause-active : goal.returns-clause-active
returns-clause-active c = c.as_of.ensures.active

pub returns-clause-spent : goal.returns-clause-spent
returns-clause-spent c = c.as_of.ensures.spent

pub returns-clause-never : goal.returns-clause-never
returns-clause-never c = c.as_of.ensures.never

pub returns-clause-still : goal.returns-clause-still
returns-clause-still c = λ h. ap (λ (seat : Sitting). seat.view) (c.as_of.ensures.still h)
