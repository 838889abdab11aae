use Rattle.std.proofs.Common.{◌≡◌, []}
use Rattle.lst_core_state.specs.State.{history}
use Rattle.lst_history.specs.Peeks.{words_in, Reads}
use Rattle.lst_history.proofs.commits.commits_until.Given as goal

abbrev pub invariant-loop-done : goal.invariant-loop-done
invariant-loop-done l = Reads l.store l.fn.seat l.seat l.s × (l.commits.items ≡ history l.done (words_in l.fn.seat.view).log (words_in l.fn.seat.view).begins (λ _. []))
