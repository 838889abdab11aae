use Rattle.std.proofs.Common.{◌+◌, ◌*◌, slice_index}
use Rattle.lst_rule.proofs.Wholes.{StoresOn}
use Rattle.lst_rule.proofs.frames.store_frame_words.Given as goal

abbrev pub invariant-loop-turn : goal.invariant-loop-turn
invariant-loop-turn l = StoresOn l.store l.fn.seat.view l.seat l.frame (1 + 11 * l.turn) (slice_index l.words)

abbrev pub invariant-loop-place : goal.invariant-loop-place
invariant-loop-place l = StoresOn l.store l.fn.seat.view l.seat l.frame (1 + 11 * l.turn + l.place) (slice_index l.words)
