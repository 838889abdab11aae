use Rattle.std.proofs.Common.{◌+◌, ◌*◌}
use Rattle.lst_rule.proofs.Running.{RunsOn}
use Rattle.lst_rule.proofs.runs.load_run.Given as goal

abbrev pub invariant-loop-turn : goal.invariant-loop-turn
invariant-loop-turn l = RunsOn l.store l.fn.seat.view l.seat l.s (8 * l.turn) l.run l.out

abbrev pub invariant-loop-place : goal.invariant-loop-place
invariant-loop-place l = RunsOn l.store l.fn.seat.view l.seat l.s (8 * l.turn + l.place) l.run l.out
