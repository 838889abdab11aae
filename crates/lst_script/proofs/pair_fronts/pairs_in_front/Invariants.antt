use Rattle.std.proofs.Common.{◌≤◌, length}
use Rattle.lst_script.proofs.PairFronts.{HasPairs}
use Rattle.lst_script.proofs.pair_fronts.pairs_in_front.Given as goal

abbrev pub invariant-loop-pair : goal.invariant-loop-pair
invariant-loop-pair l = HasPairs l.names l._pair l.text l.rest l.changes × (l._pair ≤ length l.names)
