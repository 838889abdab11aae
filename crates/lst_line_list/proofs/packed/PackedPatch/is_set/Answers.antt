use Rattle.std.proofs.Common.{arith}
use Rattle.lst_line_list.proofs.Packing.{place_fits, bit_is_set}
use Rattle.lst_line_list.proofs.packed.PackedPatch.is_set.Goals as goal

pub overflow_cast-result : goal.overflow_cast-result
overflow_cast-result c = omega (arith, place_fits c.self.inside.set c.self.inside.nulls c.self.inside.numbers.items c.args.self.now c.self.view_is c.self.invariant c.args.column c.requires)

pub overflow_shr-result : goal.overflow_shr-result
overflow_shr-result c = place_fits c.self.inside.set c.self.inside.nulls c.self.inside.numbers.items c.args.self.now c.self.view_is c.self.invariant c.args.column c.requires

pub returns : goal.returns
returns c = bit_is_set c.self.inside.set c.self.inside.nulls c.self.inside.numbers.items c.args.self.now c.self.view_is c.self.invariant c.args.column c.requires
