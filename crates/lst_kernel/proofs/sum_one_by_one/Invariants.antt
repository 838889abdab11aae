use Rattle.std.proofs.Common.{◌≡◌, take}
use lib.Lanes.{zip2, sum_l}
use Rattle.lst_kernel.specs.Entries.{lane_of}
use Rattle.lst_kernel.proofs.sum_one_by_one.Given as goal

abbrev pub invariant-loop-at : goal.invariant-loop-at
invariant-loop-at l = l.total ≡ sum_l (take l.at (zip2 (lane_of l.begin) l.values l.times))
