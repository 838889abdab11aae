use Rattle.std.proofs.Common.{drop}
use Rattle.lst_script.specs.Texts.{texts}
use Rattle.lst_script.proofs.Pairing.{IsUnderWay}
use Rattle.lst_script.proofs.pairs.read_pairs.Given as goal

abbrev pub invariant-loop-word : goal.invariant-loop-word
invariant-loop-word l = IsUnderWay l.names (texts l.words) (texts (drop l.word-index l.words)) l.changes.items
