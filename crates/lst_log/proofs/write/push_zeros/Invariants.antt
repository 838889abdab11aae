use Rattle.std.proofs.Common.{◌≡◌, ◌++◌, ◌-◌, replicate}
use Rattle.std.specs.List.{flat_map}
use Rattle.lst_log.specs.Format.{word}
use Rattle.lst_log.proofs.write.push_zeros.Given as goal

abbrev pub invariant-loop : goal.invariant-loop
invariant-loop l = l.text.items ++ flat_map word (replicate (l.columns - l.counter) 0) ≡ l.fn.text.items ++ flat_map word (replicate l.columns 0)
