use Rattle.std.proofs.Common.{◌≡◌, take, count_by}
use Rattle.lst_kernel.specs.Entries.{is_seen}
use Rattle.lst_kernel.proofs.count_one_by_one.Given as goal

abbrev pub invariant-loop-word : goal.invariant-loop-word
invariant-loop-word l = l.count ≡ count_by (is_seen l.begin) (take l.word-index l.times)
