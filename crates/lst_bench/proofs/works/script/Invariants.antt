use Rattle.std.specs.Prelude.{◌≡◌, ◌<◌}
use Rattle.std.specs.List.{All}
use Rattle.lst_model.specs.Lines.{LineFits}
use Rattle.lst_bench.proofs.works.script.Given as goal

abbrev pub invariant-loop : goal.invariant-loop
invariant-loop l = (l.drawing.sessions ≡ l.task.sessions) × (l.session < l.task.sessions) × All (LineFits l.task.sessions 4 2) l.drawing.lines
