use Rattle.std.proofs.Common.{ℕ, List, ap, rules}
use Rattle.std.specs.Prelude.{None}
use Rattle.lst_plain.proofs.holder.Holder.new.Goals as goal

pub returns : goal.returns
returns c = ap (λ (firsts : List ℕ). record { swaps = None; firsts = firsts }) (c.in_ok-firsts.ensures.items_if_clones_equal (λ y e. search rules))
