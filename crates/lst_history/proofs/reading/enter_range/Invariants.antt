use Rattle.std.proofs.Common.{◌≡◌, ◌+◌, ◌*◌}
use Rattle.lst_history.specs.Peeks.{words_in, Reads}
use Rattle.lst_history.specs.Commits.{gathered_until}
use Rattle.lst_history.proofs.reading.enter_range.Given as goal

abbrev pub invariant-loop-done : goal.invariant-loop-done
invariant-loop-done l = Reads l.store l.fn.seat l.seat l.s × (l.commits.items ≡ gathered_until l.fn.seat.view.limits (words_in l.fn.seat.view) (l.range * l.fn.seat.view.limits.tails + l.done))
