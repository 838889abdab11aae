use Rattle.std.proofs.Common.{◌≡◌, replicate}
use Rattle.lst_plain.specs.Lineages.{new_holder}
use Rattle.lst_plain.proofs.lineage.new_holders.Given as goal

abbrev pub invariant-loop : goal.invariant-loop
invariant-loop l = l.holders.items ≡ replicate l.counter (new_holder l.ranges)
