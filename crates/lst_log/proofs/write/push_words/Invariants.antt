use Rattle.std.proofs.Common.{◌≡◌, ◌++◌, drop}
use Rattle.std.specs.List.{flat_map}
use Rattle.lst_log.specs.Format.{word}
use Rattle.lst_log.proofs.write.push_words.Given as goal

abbrev pub invariant-loop-number : goal.invariant-loop-number
invariant-loop-number l = l.text.items ++ flat_map word (drop l.number-index l.numbers) ≡ l.fn.text.items ++ flat_map word l.numbers
