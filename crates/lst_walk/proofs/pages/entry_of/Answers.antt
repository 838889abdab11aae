use Rattle.std.proofs.Common.{arith, sym, ◌∙◌}
use Rattle.lst_rule.specs.Rule.{knows}
use Rattle.lst_walk.specs.Packed.{skims_same}
use Rattle.lst_walk.proofs.Loading.{pin_some, pin_none}
use Rattle.lst_walk.proofs.pages.entry_of.Goals as goal

pub returns-then-is_some-clause-none : goal.returns-then-is_some-clause-none
returns-then-is_some-clause-none c = λ free. absurd (let some = pin_some c.pinned.result (knows c.args.seat.now.view c.args.s).pages.session.pin c.pinned.ensures (sym c.is_some.ensures ∙ c.if-is_some.true) in omega arith)

pub returns-else-is_some-clause-skims : goal.returns-else-is_some-clause-skims
returns-else-is_some-clause-skims c = skims_same c.args.seat.now.view c.args.s

pub returns-else-is_some-clause-takes : goal.returns-else-is_some-clause-takes
returns-else-is_some-clause-takes c = λ pinned. absurd (let none = pin_none c.pinned.result (knows c.args.seat.now.view c.args.s).pages.session.pin c.pinned.ensures (sym c.is_some.ensures ∙ c.if-is_some.false) in omega arith)
