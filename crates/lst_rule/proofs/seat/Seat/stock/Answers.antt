use Rattle.std.proofs.Common.{ap, arith}
use Rattle.lst_rule.proofs.Paging.{stepper_low, stock_reads, stock_fits}
use Rattle.lst_rule.proofs.seat.Seat.stock.Goals as goal

pub index-now-requires : goal.index-now-requires
index-now-requires c = let low = stepper_low _ _ c.self.inside.numbers.items c.args.s c.args.event (ap (λ z. z.view) c.self.view_is) c.self.invariant.3 c.requires.actor c.requires.host in let e = c.self.inside.numbers.ok.0 in omega arith

pub returns-clause-is : goal.returns-clause-is
returns-clause-is c = stock_reads _ _ c.self.inside.numbers.items c.args.s c.index-now.result.now c.args.event (ap (λ z. z.view) c.self.view_is) c.self.invariant.3 c.index-now.ensures c.requires.actor c.requires.host

pub returns-clause-fits : goal.returns-clause-fits
returns-clause-fits c = stock_fits _ _ c.self.inside.numbers.items c.args.s c.index-now.result.now c.args.event (ap (λ z. z.view) c.self.view_is) c.self.invariant.3 c.index-now.ensures c.requires.actor c.requires.host c.requires.within c.requires.enabled c.requires.stands
