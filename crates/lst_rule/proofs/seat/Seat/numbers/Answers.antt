use Rattle.std.proofs.Common.{ap}
use Rattle.lst_rule.proofs.Telling.{reads, reads_step}
use Rattle.lst_rule.proofs.seat.Seat.numbers.Goals as goal

pub returns-clause-is : goal.returns-clause-is
returns-clause-is c = reads _ _ c.self.inside.numbers.items c.args.s c.index.result.now (ap (λ z. z.view) c.self.view_is) c.self.invariant.3 c.index.ensures c.requires.host

pub returns-clause-place : goal.returns-clause-place
returns-clause-place c = (reads_step _ _ c.self.inside.numbers.items c.args.s c.index.result.now c.args.event (ap (λ z. z.view) c.self.view_is) c.self.invariant.3 c.index.ensures c.requires.host c.requires.own c.requires.session c.requires.within c.requires.enabled).place

pub returns-clause-writable : goal.returns-clause-writable
returns-clause-writable c = (reads_step _ _ c.self.inside.numbers.items c.args.s c.index.result.now c.args.event (ap (λ z. z.view) c.self.view_is) c.self.invariant.3 c.index.ensures c.requires.host c.requires.own c.requires.session c.requires.within c.requires.enabled).writable
