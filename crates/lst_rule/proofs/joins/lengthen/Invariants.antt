use Rattle.std.proofs.Common.{◌≡◌, ◌-◌, length}
use Rattle.lst_rule.specs.Joins.{hears_numbers}
use Rattle.lst_rule.proofs.Changing.{mapped}
use Rattle.lst_rule.proofs.joins.lengthen.Given as goal

abbrev pub invariant-loop-s : goal.invariant-loop-s
invariant-loop-s l = l.numbers.items ≡ mapped (hears_numbers l.time) l.s l.fn.numbers.items

abbrev pub decreases-loop-s : goal.decreases-loop-s
decreases-loop-s l = length l.numbers.items - l.s
