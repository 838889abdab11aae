use Rattle.std.proofs.Common.{◌≡◌}
use Rattle.lst_replies.specs.Reading.{texts}
use Rattle.lst_replies.proofs.parse.split_lines.Given as goal

abbrev pub invariant-loop-line : goal.invariant-loop-line
invariant-loop-line l = texts l.lines.items ≡ texts l.yielded
