use Rattle.std.proofs.Common.{◌+◌, ℕ, subst}
use Rattle.lst_layout.specs.Words.{shown}
use Rattle.lst_core_state.specs.Cells.{IsColumn}
use Rattle.lst_core.proofs.Drafting.{right_on}
use Rattle.lst_core.proofs.drafts.is_cell.Goals as goal

pub loop-column-preserved : goal.loop-column-preserved
loop-column-preserved c = let value : ℕ → ℕ = λ k. (shown c.args.layout.now.limits c.args.words.now).cells c.args.tail (3 + k) in
    right_on c.cell-word.result value c.loop-column.column c.loop-column.invariant (subst (IsColumn c.cell-word.result c.loop-column.column) c.cell.ensures (c.is_column.ensures.0 c.if-not-is_column.false))
