use Rattle.std.specs.List.{All}
use Rattle.lst_session.specs.Passes.{IsReady}
use Rattle.lst_work.specs.ParSums.{HaveSeenAlike}
use Rattle.lst_bench.proofs.sums.sums.Given as goal

abbrev pub invariant-loop : goal.invariant-loop
invariant-loop g l = All (IsReady l.store) l.summers × HaveSeenAlike 1 l.summers
