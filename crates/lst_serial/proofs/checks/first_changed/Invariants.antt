use Rattle.std.proofs.Common.{drop, ◌++◌}
use Rattle.lst_serial.specs.Searches.{Searching}
use Rattle.lst_serial.proofs.checks.first_changed.Given as goal

abbrev pub invariant-loop-key : goal.invariant-loop-key
invariant-loop-key l = Searching l.store l.fn.session l.session l.keys (drop l.key-index l.keys.few.items ++ l.keys.keys.keys) l.least

abbrev pub invariant-loop-other : goal.invariant-loop-other
invariant-loop-other l = Searching l.store l.fn.session l.session l.keys l.other-iterator l.least
