use Rattle.std.proofs.Common.{ap}
use Rattle.lst_core_state.specs.declared.numbers.Numbers.{Numbers}
use Rattle.lst_rule.proofs.Telling.{reads}
use Rattle.lst_rule.proofs.seat.Seat.has_writes.Goals as goal

pub returns : goal.returns
returns c = ap (λ (m : Numbers). m.has_writes) (reads _ _ c.self.inside.numbers.items c.args.s c.index.result.now (ap (λ z. z.view) c.self.view_is) c.self.invariant.3 c.index.ensures c.requires)
