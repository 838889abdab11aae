use Rattle.std.specs.Prelude.{◌≡◌}
use Rattle.std.specs.List.{All}
use Rattle.lst_model.specs.Lines.{LineFits}
use Rattle.lst_bench.proofs.works.Drawing.transact.Given as goal

abbrev pub invariant-loop : goal.invariant-loop
invariant-loop l = (l.self.sessions ≡ l.fn.self.sessions) × All (LineFits l.self.sessions 4 2) l.self.lines
