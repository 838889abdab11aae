use Rattle.std.proofs.Common.{◌+◌, ◌*◌}
use Rattle.lst_rule.proofs.Wholes.{LoadsOn}
use Rattle.lst_rule.proofs.frames.load_frame_words.Given as goal

abbrev pub invariant-loop-turn : goal.invariant-loop-turn
invariant-loop-turn l = LoadsOn l.store l.fn.seat.view l.seat l.s l.frame (14 * l.turn) l.out

abbrev pub invariant-loop-place : goal.invariant-loop-place
invariant-loop-place l = LoadsOn l.store l.fn.seat.view l.seat l.s l.frame (14 * l.turn + l.place) l.out
