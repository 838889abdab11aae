use Rattle.std.proofs.Common.{refl, arith}
use Rattle.lst_pack.proofs.checks.is_reference.Goals as goal

pub loop-place-init : goal.loop-place-init
loop-place-init c = λ p low. absurd (omega arith)

pub returns : goal.returns
returns c = (λ is. record { whole = c.requires.width; fits = λ p low. c.loop-place.invariant p (omega arith) }, λ is. refl)
