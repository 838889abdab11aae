use Rattle.std.proofs.Common.{◌≡◌, ℕ, arith, sym, subst, ap, ◌∙◌, slice_index}
use Rattle.std.specs.Prelude.{Bool, Some, None, cond}
use Rattle.lst_layout.specs.Frames.{null_place, null_bit}
use Rattle.lst_model.specs.Cells.{has_bit}
use Rattle.lst_core_state.specs.declared.known.Known.{Known}
use Rattle.lst_rule.specs.Watching.{HasInHand}
use Rattle.lst_walk.specs.Packed.{skims_on}
use Rattle.lst_walk.proofs.Entries.{cell_some}
use Rattle.lst_walk.proofs.pages.numbered_cell.Goals as goal

pub returns-then-number-gt0-clause-cell : goal.returns-then-number-gt0-clause-cell
returns-then-number-gt0-clause-cell c = λ words hand values packs is.
    let e = c.value_from-number.ensures.value values packs in
    let some = c.if-number-gt0.true in
    ap (λ (n : ℕ). Some n) e ∙ cell_some (has_bit (words (null_place c.args.slot)) (null_bit c.args.slot)) (slice_index values c.args.slot) (omega arith) is

pub returns-then-is_null-clause-skims : goal.returns-then-is_null-clause-skims
returns-then-is_null-clause-skims c = skims_on c.args.seat.now.view c.value_from-number.new.seat.view c.is_null.new.seat.view c.args.s c.value_from-number.ensures.skims c.is_null.ensures.skims

pub returns-else-is_null-clause-skims : goal.returns-else-is_null-clause-skims
returns-else-is_null-clause-skims c = skims_on c.args.seat.now.view c.value_from-number.new.seat.view c.is_null.new.seat.view c.args.s c.value_from-number.ensures.skims c.is_null.ensures.skims

pub returns-then-is_null-clause-cell : goal.returns-then-is_null-clause-cell
returns-then-is_null-clause-cell c = λ words hand values packs is.
    let there = subst (λ (k : Known). HasInHand k.pages.session c.args.frame words) (sym c.value_from-number.ensures.same) hand in
    sym (ap (λ (b : Bool). cond b None (Some (slice_index values c.args.slot))) (sym (c.is_null.ensures.null words there) ∙ c.if-is_null.true))

pub returns-else-is_null-clause-cell : goal.returns-else-is_null-clause-cell
returns-else-is_null-clause-cell c = λ words hand values packs is.
    let there = subst (λ (k : Known). HasInHand k.pages.session c.args.frame words) (sym c.value_from-number.ensures.same) hand in
    let e = c.value_from-number.ensures.value values packs in
    let none = c.if-number-gt0.false in
    let zero : 0 ≡ slice_index values c.args.slot = omega arith in
    ap (λ (n : ℕ). Some n) zero ∙ sym (ap (λ (b : Bool). cond b None (Some (slice_index values c.args.slot))) (sym (c.is_null.ensures.null words there) ∙ c.if-is_null.false))
