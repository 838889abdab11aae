use Rattle.std.proofs.Common.{rules}
use Rattle.lst_plain.proofs.lineage.Lineage.new.Goals as goal

pub returns : goal.returns
returns c = λ i. record { tps = c.in_ok-tps.ensures.items_if_clones_equal (λ y e. search rules) i; holders = c.in_ok-holders.ensures i }
