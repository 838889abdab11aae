use Rattle.std.proofs.Common.{◌≡◌, ◌+◌}
use Rattle.lst_pack.specs.Counts.{runs_below}
use Rattle.lst_pack.proofs.survey.runs_of.Given as goal

-- each place below this one begins a run or has the value before it
abbrev pub invariant-loop-place : goal.invariant-loop-place
invariant-loop-place l = l.same + runs_below l.values l.place ≡ l.place
