use Rattle.std.proofs.Common.{◌+◌, ◌-◌}
use Rattle.lst_write.specs.Cells.{cell_word}
use Rattle.lst_write.specs.Appending.{Stores}
use Rattle.lst_write.proofs.tails.store_words.Given as goal

abbrev pub invariant-loop-place : goal.invariant-loop-place
invariant-loop-place l = Stores l.store l.fn.seat.view l.seat l.s (cell_word l.encoding l.head l.act) l.place

abbrev pub decreases-loop-place : goal.decreases-loop-place
decreases-loop-place l = 3 + l.columns - l.place
