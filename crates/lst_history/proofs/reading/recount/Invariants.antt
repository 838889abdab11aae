use Rattle.std.proofs.Common.{◌≡◌, ◌*◌}
use Rattle.lst_model.specs.Histories.{Extends}
use Rattle.lst_core_state.specs.State.{history_of}
use Rattle.lst_rule.specs.Rule.{knows}
use Rattle.lst_history.specs.Peeks.{words_in, Reads}
use Rattle.lst_history.specs.Commits.{gathered_until}
use Rattle.lst_history.proofs.reading.recount.Given as goal

abbrev pub invariant-loop-range : goal.invariant-loop-range
invariant-loop-range l = Reads l.store l.fn.seat l.seat l.s × (l.commits.items ≡ gathered_until l.fn.seat.view.limits (words_in l.fn.seat.view) (l.range * l.fn.seat.view.limits.tails)) × Extends (knows l.seat.view l.s).seen (history_of l.fn.seat.view.limits (words_in l.fn.seat.view))
