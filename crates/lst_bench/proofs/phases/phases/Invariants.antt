use Rattle.std.specs.List.{All}
use Rattle.lst_session.specs.Passes.{IsReady}
use Rattle.lst_bench.proofs.phases.phases.Given as goal

abbrev pub invariant-loop : goal.invariant-loop
invariant-loop l = All (IsReady l.store) l.sessions
