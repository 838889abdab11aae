use Rattle.std.proofs.Common.{◌≡◌, take}
use Rattle.lst_script.specs.Texts.{texts}
use Rattle.lst_script.proofs.headers.names_of.Given as goal

abbrev pub invariant-loop-word : goal.invariant-loop-word
invariant-loop-word l = l.names ≡ texts (take l.word-index l.words)
