use Rattle.std.proofs.Common.{◌≡◌, ◌+◌, ◌-◌, drop, ap, sym, arith}
use Rattle.lst_historic.specs.Blocks.{changed_bits, emptied_bits}
use Rattle.lst_historic.proofs.Written.{over, changed_more, changed_few, emptied_more, emptied_few}
use Rattle.lst_historic.proofs.writing.row_bits.Goals as goal

pub loop-column-init : goal.loop-column-init
loop-column-init c =
    let o = over c.args.old.now.items c.args.new.now.items c.width-column.result c.width-column.ensures.all in
    let changed = o.changed in
    let emptied = o.emptied in
    record { old = c.width-column.ensures.old; new = c.width-column.ensures.new; few = c.width-column.ensures.few; bits = omega (arith, changed, emptied) }

pub overflow_mul-bits : goal.overflow_mul-bits
overflow_mul-bits c =
    let low = changed_few c.args.old.now.items c.args.new.now.items c.loop-column.column c.loop-column.invariant.few in
    let empty = emptied_few c.args.old.now.items c.args.new.now.items c.loop-column.column c.loop-column.invariant.few in
    let is = c.loop-column.invariant.bits in
    record { fits = omega (arith, low, empty, is) }

pub overflow_add-bits : goal.overflow_add-bits
overflow_add-bits c =
    let low = changed_few c.args.old.now.items c.args.new.now.items c.loop-column.column c.loop-column.invariant.few in
    let empty = emptied_few c.args.old.now.items c.args.new.now.items c.loop-column.column c.loop-column.invariant.few in
    let is = c.loop-column.invariant.bits in
    let one = c.cell_bits.ensures.few in
    record { fits = omega (arith, low, empty, is, one) }

pub loop-column-preserved : goal.loop-column-preserved
loop-column-preserved c =
    let old = c.args.old.now.items in
    let new = c.args.new.now.items in
    let column = c.loop-column.column - 1 in
    let more = changed_more old new column c.cell_at.result c.cell_at-in-loop-column.result c.cell_at.ensures c.cell_at-in-loop-column.ensures in
    let empty = emptied_more old new column c.cell_at.result c.cell_at-in-loop-column.result c.cell_at.ensures c.cell_at-in-loop-column.ensures in
    let back : column + 1 ≡ c.loop-column.column = omega arith in
    let behind = ap (λ k. changed_bits (drop k old) (drop k new)) back in
    let behind-2 = ap (λ k. emptied_bits (drop k old) (drop k new)) back in
    let bit = c.cell_bits.ensures.is in
    let is = c.loop-column.invariant.bits in
    record {
      old = omega (arith, c.loop-column.invariant.old);
      new = omega (arith, c.loop-column.invariant.new);
      few = c.loop-column.invariant.few;
      bits = omega (arith, more, empty, behind, behind-2, bit, is);
    }

pub returns : goal.returns
returns c =
    let low = changed_few c.args.old.now.items c.args.new.now.items c.loop-column.column c.loop-column.invariant.few in
    let empty = emptied_few c.args.old.now.items c.args.new.now.items c.loop-column.column c.loop-column.invariant.few in
    let none : c.loop-column.column ≡ 0 = omega (arith, c.loop-column-test.false) in
    let changed = ap (λ k. changed_bits (drop k c.args.old.now.items) (drop k c.args.new.now.items)) none in
    let emptied = ap (λ k. emptied_bits (drop k c.args.old.now.items) (drop k c.args.new.now.items)) none in
    let is = c.loop-column.invariant.bits in
    record { low = omega (arith, low, empty, is); tag = omega (arith, changed, emptied, is) }
