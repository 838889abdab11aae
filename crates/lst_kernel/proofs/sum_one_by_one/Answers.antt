use Rattle.std.proofs.Common.{ℕ, ◌+◌, cond, get_or, ap, ap₂, ◌∙◌, sym, add-zero, arith}
use lib.Lanes.{sum_l}
use Rattle.lst_kernel.proofs.Sums.{seen_up_to, sum_low, one_more, at_end}
use Rattle.lst_kernel.proofs.sum_one_by_one.Goals.{then-is_word_seen, else-is_word_seen}
use Rattle.lst_kernel.proofs.sum_one_by_one.Goals as goal

pub overflow_add-total : goal.overflow_add-total
overflow_add-total c =
    let low = sum_low c.args.begin c.args.values.now c.args.times.now c.requires.long c.requires.few c.type_inv.values c.loop-at.at in
    let word = c.type_inv.values c.loop-at.at in
    record { fits = omega arith }

pub loop-at-preserved : goal.loop-at-preserved
loop-at-preserved c =
    let more = one_more c.args.begin c.args.values.now c.args.times.now c.requires.long c.requires.few c.type_inv.values c.loop-at.at c.loop-at-test.true in
    let before = c.loop-at.invariant in
    let value = get_or c.args.values.now c.loop-at.at 0 in
    elim c.if-is_word_seen.branch [
      | then-is_word_seen w ↦
          let counted = ap (λ t. cond t value 0) (sym c.is_word_seen.ensures ∙ w.if-is_word_seen.true) in
          w.total-is ∙ ap₂ (λ (a : ℕ) (b : ℕ). a + b) before (w.from-total.ensures ∙ sym counted) ∙ sym more
      | else-is_word_seen w ↦
          let left_out = ap (λ t. cond t value 0) (sym c.is_word_seen.ensures ∙ w.if-is_word_seen.false) in
          w.total-is ∙ before ∙ sym (more ∙ ap (λ n. sum_l (seen_up_to c.args.begin c.args.values.now c.args.times.now c.loop-at.at) + n) left_out ∙ add-zero _)
    ]

pub returns : goal.returns
returns c = c.loop-at.invariant ∙ at_end c.args.begin c.args.values.now c.args.times.now c.requires.long c.requires.few c.type_inv.values c.loop-at.at c.loop-at-test.false
