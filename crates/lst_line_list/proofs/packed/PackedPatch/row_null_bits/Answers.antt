use Rattle.std.proofs.Common.{arith}
use Rattle.lst_line_list.proofs.Packing.{sets_within, row_is, row_fits}
use Rattle.lst_line_list.proofs.packed.PackedPatch.row_null_bits.Goals as goal

pub overflow_sub-result : goal.overflow_sub-result
overflow_sub-result c = sets_within c.self.inside.set c.self.inside.nulls c.self.inside.numbers.items c.args.self.now c.self.view_is c.self.invariant c.len.result c.from.result c.len.ensures.value c.from.ensures

pub overflow_add-result : goal.overflow_add-result
overflow_add-result c = omega (arith, row_fits c.self.inside.set c.self.inside.nulls c.self.inside.numbers.items c.args.self.now c.self.view_is c.self.invariant c.len.result c.from.result c.len.ensures.value c.from.ensures c.from-2.result c.from-2.ensures)

pub overflow_cast-result : goal.overflow_cast-result
overflow_cast-result c = omega (arith, row_fits c.self.inside.set c.self.inside.nulls c.self.inside.numbers.items c.args.self.now c.self.view_is c.self.invariant c.len.result c.from.result c.len.ensures.value c.from.ensures c.from-2.result c.from-2.ensures)

pub returns : goal.returns
returns c = row_is c.self.inside.set c.self.inside.nulls c.self.inside.numbers.items c.args.self.now c.self.view_is c.self.invariant c.len.result c.from.result c.len.ensures.value c.from.ensures c.from-2.result c.from-2.ensures
