use Rattle.std.proofs.Common.{◌≡◌, length}
use Rattle.lst_replies.specs.Reading.{cell_of}
use Rattle.lst_replies.proofs.Sequences.{ReadsOn}
use Rattle.lst_replies.proofs.long.read_cells.Given as goal

abbrev pub invariant-loop-word : goal.invariant-loop-word
invariant-loop-word l = record { reads : ReadsOn cell_of l.words l.row l.word-index; as_many : length l.row ≡ l.word-index }
