use Rattle.std.proofs.Common.{◌≡◌, true, sym, ◌∙◌}
use Rattle.lst_rule.specs.Rule.{knows}
use Rattle.lst_session.specs.Calls.{Gets}
use Rattle.lst_session.proofs.Growing.{begun_early}
use Rattle.lst_session.proofs.Answering.{ready, gets, gets_idle}
use Rattle.lst_session.proofs.Pinned.{get_pinned}
use Rattle.lst_session.proofs.session.Session.get.Goals as goal

is_open : (c : goal.After-read) → (knows c.args.self.now.seat.view c.args.self.now.number).is_open ≡ true
is_open c = sym c.is_open.ensures ∙ c.if-not-is_open.false

got : (c : goal.After-read) → Gets c.args.self.now.seat.view c.read.new.seat.view c.args.self.now.number c.args.key c.read.result
got c = gets c.args.self.now.seat.view c.read.new.seat.view c.args.self.now.number c.args.key c.read.result c.requires.ready.own (begun_early c.args.self.now.seat.view c.args.self.now.number c.consider.ensures c.requires.ready.host (is_open c)) (is_open c) c.read.ensures.reads

pub returns-clause-ready : goal.returns-clause-ready
returns-clause-ready c = ready c.args.store.now c.args.self.now c.read.new.seat c.requires.ready c.read.ensures.seat (got c).called.learns.hosted
    (gets_idle c.args.self.now.seat.view c.read.new.seat.view c.args.self.now.number c.args.key c.read.result c.requires.ready.own (begun_early c.args.self.now.seat.view c.args.self.now.number c.consider.ensures c.requires.ready.host (is_open c)) (is_open c) c.read.ensures.reads c.requires.ready.idle)
    (get_pinned c.args.self.now.seat.view c.read.new.seat.view c.args.self.now.number c.requires.ready.pinned c.args.key c.read.result (got c))

pub returns-clause-ok : goal.returns-clause-ok
returns-clause-ok c = (is_open c, got c)
