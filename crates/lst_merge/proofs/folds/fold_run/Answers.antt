use Rattle.std.proofs.Common.{◌+◌, ◌*◌, ap, ◌∙◌}
use Rattle.lst_layout.specs.declared.layout.Layout.{Layout}
use Rattle.lst_merge.proofs.Folding.{folds_first, folds_settled, folds_next}
use Rattle.lst_merge.proofs.folds.fold_run.Goals as goal

pub loop-number-init : goal.loop-number-init
loop-number-init c = folds_first _ _ _ _ _ _ _ _ c.requires.seat c.requires.from c.requires.numbers

pub fold_tail-requires-clause-settled : goal.fold_tail-requires-clause-settled
fold_tail-requires-clause-settled c = folds_settled _ _ c.loop-number.seat _ _ _ _ _ _ _ _ c.loop-number.invariant c.requires.settled c.loop-number-test.true c.tail_at-tail.result.identifier (c.tail_at-tail.ensures.identifier ∙ ap (λ (y : Layout). c.args.range * y.limits.tails + (c.loop-number.number + 1)) c.layout.ensures)

pub loop-number-preserved : goal.loop-number-preserved
loop-number-preserved c = folds_next _ _ c.loop-number.seat _ _ _ _ _ _ _ _ c.loop-number.invariant c.fold_tail.new.seat _ _ c.tail_at-tail.result.identifier (c.tail_at-tail.ensures.identifier ∙ ap (λ (y : Layout). c.args.range * y.limits.tails + (c.loop-number.number + 1)) c.layout.ensures) c.requires.settled c.loop-number-test.true c.fold_tail.ensures.seat c.fold_tail.ensures.inspects c.fold_tail.ensures.folds c.fold_tail.ensures.numbers
