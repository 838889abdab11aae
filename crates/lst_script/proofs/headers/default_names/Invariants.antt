use Rattle.std.proofs.Common.{◌≡◌}
use Rattle.lst_script.specs.Headers.{names_from}
use Rattle.lst_script.proofs.headers.default_names.Given as goal

abbrev pub invariant-loop-column : goal.invariant-loop-column
invariant-loop-column l = l.names ≡ names_from 0 l.column
