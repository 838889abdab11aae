use Rattle.std.proofs.Common.{◌-◌, ◌+◌, ◌<◌, ℕ}
use Rattle.lst_layout.specs.Words.{shown}
use Rattle.lst_core_state.specs.Cells.{IsColumn}
use Rattle.lst_core.proofs.drafts.is_cell.Given as goal

abbrev pub invariant-loop-column : goal.invariant-loop-column
invariant-loop-column l = (c : ℕ) → c < l.column → IsColumn l.word c ((shown l.fn.layout.limits l.words).cells l.tail (3 + c))

abbrev pub decreases-loop-column : goal.decreases-loop-column
decreases-loop-column l = l.columns - l.column
