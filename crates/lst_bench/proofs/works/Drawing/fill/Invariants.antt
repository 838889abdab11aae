use Rattle.std.specs.Prelude.{◌≡◌, ◌<◌}
use Rattle.std.specs.List.{All}
use Rattle.lst_model.specs.Lines.{LineFits}
use Rattle.lst_bench.proofs.works.Drawing.fill.Given as goal

abbrev pub invariant-loop-key : goal.invariant-loop-key
invariant-loop-key l = (l.self.sessions ≡ l.fn.self.sessions) × (0 < l.self.sessions) × All (LineFits l.self.sessions 4 2) l.self.lines
