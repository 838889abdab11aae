use Rattle.std.proofs.Common.{◌≡◌}
use Rattle.lst_replies.specs.Reading.{texts}
use Rattle.lst_replies.proofs.words.split_words.Given as goal

abbrev pub invariant-loop-part : goal.invariant-loop-part
invariant-loop-part l = texts l.words.items ≡ texts l.yielded
