use Rattle.std.proofs.Common.{ap}
use Rattle.lst_core_state.specs.declared.numbers.Numbers.{Numbers}
use Rattle.lst_rule.proofs.Telling.{number_few, reads}
use Rattle.lst_rule.proofs.seat.Seat.number.Goals as goal

pub returns-clause-is : goal.returns-clause-is
returns-clause-is c = ap (λ (m : Numbers). m.number) (reads _ _ c.self.inside.numbers.items c.args.s c.index.result.now (ap (λ z. z.view) c.self.view_is) c.self.invariant.3 c.index.ensures c.requires)

pub returns-clause-few : goal.returns-clause-few
returns-clause-few c low = number_few _ _ c.self.inside.numbers.items c.args.s c.index.result.now (ap (λ z. z.view) c.self.view_is) c.self.invariant.3 c.index.ensures c.requires low
