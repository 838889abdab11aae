use Rattle.std.proofs.Common.{◌<◌, ◌+◌, length, ℕ, slice_index_or, slice_set, sym, subst, ◌∙◌, ap, arith, List}
use Rattle.lst_layout.specs.declared.TheConstants.{RANGE_RECORDS}
use Rattle.lst_pages.specs.declared.entries.Entry.{Entry}
use Rattle.lst_pages.specs.Entries.{blank}
use Rattle.lst_pages.proofs.Folds.{So, fold_put, fold_skip}
use Rattle.lst_pages.proofs.entries.fold_tails.Goals as goal
use Rattle.lst_pages.proofs.entries.fold_tails.Goals.{then-touches, else-touches}

-- src/entries.rt:37:5
pub loop-tail-preserved : goal.loop-tail-preserved
loop-tail-preserved c =
    let t = c.tail-item.result in let k : ℕ = c.loop-tail.tail-index in let column : ℕ = c.args.column in let ts = c.args.tails.now in
    let e : ℕ → Entry = λ i. slice_index_or c.args.entries.now i blank in
    let low : k < length ts = c.loop-tail-test.true in
    elim c.if-touches.branch [
      | then-touches w ↦ subst (λ (es : List Entry). So column k RANGE_RECORDS e c.loop-tail.entries ts t low c.tail-item.is es (k + 1)) (sym (w.entries-is ∙ ap (λ (x : Entry). slice_set c.loop-tail.entries t.slot x) w.entry.ensures))
          (fold_put column k RANGE_RECORDS e c.loop-tail.entries ts t low c.tail-item.is (omega arith) (omega arith) (sym c.touches.ensures ∙ w.if-touches.true) c.loop-tail.invariant)
      | else-touches w ↦ subst (λ (es : List Entry). So column k RANGE_RECORDS e c.loop-tail.entries ts t low c.tail-item.is es (k + 1)) (sym w.entries-is)
          (fold_skip column k RANGE_RECORDS e c.loop-tail.entries ts t low c.tail-item.is (sym c.touches.ensures ∙ w.if-touches.false) c.loop-tail.invariant)
    ]
