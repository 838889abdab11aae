use Rattle.std.proofs.Common.{◌≡◌, ◌+◌, MatchOption, ap, subst}
use Rattle.lst_core_state.specs.declared.numbers.Numbers.{Numbers}
use Rattle.lst_rule.proofs.Telling.{pin_is, reads}
use Rattle.lst_rule.proofs.seat.Seat.pinned.Goals as goal

pub returns : goal.returns
returns c = subst (λ (m : Numbers). MatchOption c.unpack_pin.result (m.pin ≡ 0) (λ epoch. m.pin ≡ epoch + 1)) (reads _ _ c.self.inside.numbers.items c.args.s c.index.result.now (ap (λ z. z.view) c.self.view_is) c.self.invariant.3 c.index.ensures c.requires) (pin_is _ _ c.unpack_pin.ensures.word)
