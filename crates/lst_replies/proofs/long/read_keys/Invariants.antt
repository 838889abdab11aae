use Rattle.lst_replies.specs.Reading.{number64}
use Rattle.lst_replies.proofs.Sequences.{ReadsOn}
use Rattle.lst_replies.proofs.long.read_keys.Given as goal

abbrev pub invariant-loop-word : goal.invariant-loop-word
invariant-loop-word l = ReadsOn number64 l.words l.keys l.word-index
