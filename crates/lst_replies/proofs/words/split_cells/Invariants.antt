use Rattle.std.proofs.Common.{◌≡◌}
use Rattle.lst_replies.specs.Reading.{texts}
use Rattle.lst_replies.proofs.words.split_cells.Given as goal

abbrev pub invariant-loop-part : goal.invariant-loop-part
invariant-loop-part l = texts l.cells.items ≡ texts l.yielded
