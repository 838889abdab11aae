use Rattle.std.proofs.Common.{◌≡◌, take}
use Rattle.lst_plain.specs.Lineages.{least_first}
use Rattle.lst_plain.proofs.lineage.least_of.Given as goal

abbrev pub invariant-loop-holder : goal.invariant-loop-holder
invariant-loop-holder l = l.least ≡ least_first 0 (take l.holder-index l.holders) l.range
