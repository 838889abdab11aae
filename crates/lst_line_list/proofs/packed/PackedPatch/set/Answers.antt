use Rattle.std.proofs.Common.{arith}
use Rattle.lst_line_list.proofs.Packing.{place_fits, set_fits, null_fits, written, number_set, null_set}
use Rattle.lst_line_list.proofs.packed.PackedPatch.set.Goals as goal

pub overflow_cast-self : goal.overflow_cast-self
overflow_cast-self c = omega (arith, place_fits c.self.inside.set c.self.inside.nulls c.self.inside.numbers.items c.args.self.now c.self.view_is c.self.invariant c.args.column c.requires.within)

pub overflow_shl-self : goal.overflow_shl-self
overflow_shl-self c = place_fits c.self.inside.set c.self.inside.nulls c.self.inside.numbers.items c.args.self.now c.self.view_is c.self.invariant c.args.column c.requires.within

pub overflow_add-self : goal.overflow_add-self
overflow_add-self c = omega (arith, set_fits c.self.inside.set c.self.inside.nulls c.self.inside.numbers.items c.args.self.now c.self.view_is c.self.invariant c.args.column c.requires.within c.requires.free)

pub invariant_of-self : goal.invariant_of-self
invariant_of-self c = (number_set c.self.inside.set c.self.inside.nulls c.self.inside.numbers.items c.args.self.now c.self.view_is c.self.invariant c.args.column c.requires.within c.requires.free c.in-Some.number _ c.args.cell (written c.self.inside.numbers.items c.as_mut_slice.result.now c.args.column c.in-Some.number c.as_mut_slice.ensures.value) c.in-Some.is).are

pub overflow_cast-self-in-None : goal.overflow_cast-self-in-None
overflow_cast-self-in-None c = omega (arith, place_fits c.self.inside.set c.self.inside.nulls c.self.inside.numbers.items c.args.self.now c.self.view_is c.self.invariant c.args.column c.requires.within)

pub overflow_shl-self-in-None : goal.overflow_shl-self-in-None
overflow_shl-self-in-None c = place_fits c.self.inside.set c.self.inside.nulls c.self.inside.numbers.items c.args.self.now c.self.view_is c.self.invariant c.args.column c.requires.within

pub overflow_add-self-in-None : goal.overflow_add-self-in-None
overflow_add-self-in-None c = omega (arith, null_fits c.self.inside.set c.self.inside.nulls c.self.inside.numbers.items c.args.self.now c.self.view_is c.self.invariant c.args.column c.requires.within c.requires.free)

pub invariant_of-self-in-None : goal.invariant_of-self-in-None
invariant_of-self-in-None c = (null_set c.self.inside.set c.self.inside.nulls c.self.inside.numbers.items c.args.self.now c.self.view_is c.self.invariant c.args.column c.requires.within c.requires.free c.args.cell c.in-None.is).are

pub returns-in-Some : goal.returns-in-Some
returns-in-Some c = (number_set c.self.inside.set c.self.inside.nulls c.self.inside.numbers.items c.args.self.now c.self.view_is c.self.invariant c.args.column c.requires.within c.requires.free c.in-Some.number _ c.args.cell (written c.self.inside.numbers.items c.as_mut_slice.result.now c.args.column c.in-Some.number c.as_mut_slice.ensures.value) c.in-Some.is).tells

pub returns-in-None : goal.returns-in-None
returns-in-None c = (null_set c.self.inside.set c.self.inside.nulls c.self.inside.numbers.items c.args.self.now c.self.view_is c.self.invariant c.args.column c.requires.within c.requires.free c.args.cell c.in-None.is).tells
