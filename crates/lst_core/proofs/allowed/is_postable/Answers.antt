use Rattle.std.proofs.Common.{sym, true≢false, ◌∙◌}
use Rattle.lst_layout.specs.Words.{shown}
use Rattle.lst_core.proofs.ValueRuns.{postable, unreached, unnumbered}
use Rattle.lst_core.proofs.allowed.is_postable.Goals.{then-has_number, else-has_number}
use Rattle.lst_core.proofs.allowed.is_postable.Goals as goal

pub returns-then-reaches : goal.returns-then-reaches
returns-then-reaches c = elim c.if-has_number.branch [
  | then-has_number w ↦ postable c.args.layout.now.limits (shown c.args.layout.now.limits c.args.words.now) c.args.hold c.args.column c.args.position c.cell.result c.cell-value.result c.cell.ensures c.cell-value.ensures (c.has_number.ensures.0 w.if-has_number.true) (w.reaches.ensures.0 (sym w.value-is ∙ c.if-reaches.true)) c.is_posted.result c.is_posted.ensures
  | else-has_number w ↦ absurd (true≢false (sym c.if-reaches.true ∙ (w.value-is ∙ w.if-has_number.false)))
]

pub returns-else-reaches : goal.returns-else-reaches
returns-else-reaches c = (
  λ t. absurd (true≢false (sym t ∙ c.if-reaches.false)),
  λ p. absurd (elim c.if-has_number.branch [
    | then-has_number w ↦ unreached c.args.layout.now.limits (shown c.args.layout.now.limits c.args.words.now) c.args.hold c.args.column c.args.position c.cell.result c.cell-value.result c.cell.ensures c.cell-value.ensures (λ r. true≢false (sym (w.reaches.ensures.1 r) ∙ (sym w.value-is ∙ c.if-reaches.false))) p
    | else-has_number w ↦ unnumbered c.args.layout.now.limits (shown c.args.layout.now.limits c.args.words.now) c.args.hold c.args.column c.args.position c.cell.result c.cell-value.result c.cell.ensures c.cell-value.ensures (λ n. true≢false (sym (c.has_number.ensures.1 n) ∙ w.if-has_number.false)) p
  ]),
)
