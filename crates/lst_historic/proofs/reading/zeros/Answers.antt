use Rattle.std.proofs.Common.{◌≡◌, ℕ, ap, ◌∙◌, arith}
use Rattle.std.specs.Prelude.{replicate, Some}
use Rattle.lst_historic.proofs.reading.zeros.Goals as goal

pub returns : goal.returns
returns c = let e : c.loop.counter ≡ c.args.columns = omega arith in c.loop.invariant.zeros ∙ ap (λ (n : ℕ). replicate n (Some 0)) e
