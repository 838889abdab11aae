use Rattle.lst_replies.specs.Reading.{entry_of}
use Rattle.lst_replies.proofs.Sequences.{ReadsOn}
use Rattle.lst_replies.proofs.long.read_rows.Given as goal

abbrev pub invariant-loop-word : goal.invariant-loop-word
invariant-loop-word l = ReadsOn (entry_of l.columns) l.words l.rows l.word-index
