use Rattle.std.proofs.Common.{◌≡◌, replicate}
use Rattle.lst_machine.specs.Parts.{new_session}
use Rattle.lst_machine.proofs.machine.new_sessions.Given as goal

abbrev pub invariant-loop : goal.invariant-loop
invariant-loop l = l.sessions.items ≡ replicate l.counter new_session
