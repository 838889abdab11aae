use Rattle.std.proofs.Common.{◌≡◌, ◌+◌, MatchOption, ap, subst}
use Rattle.lst_core_state.specs.declared.numbers.Numbers.{Numbers}
use Rattle.lst_rule.proofs.Telling.{reads}
use Rattle.lst_rule.proofs.seat.Seat.latch.Goals as goal

pub returns : goal.returns
returns c = subst (λ (m : Numbers). MatchOption c.one_less.result (m.hold.latch ≡ 0) (λ less. m.hold.latch ≡ less + 1)) (reads _ _ c.self.inside.numbers.items c.args.s c.index.result.now (ap (λ z. z.view) c.self.view_is) c.self.invariant.3 c.index.ensures c.requires) c.one_less.ensures
