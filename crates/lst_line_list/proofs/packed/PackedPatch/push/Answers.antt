use Rattle.std.proofs.Common.{◌≡◌, Some, None, ap, ◌∙◌, arith}
use Rattle.lst_model.specs.Cells.{Cell}
use Rattle.lst_line_list.proofs.Packing.{push_set_fits, push_null_fits, push_kept, push_null, push_number}
use Rattle.lst_line_list.proofs.packed.PackedPatch.push.Goals as goal

pub invariant_of-self : goal.invariant_of-self
invariant_of-self c = (push_kept c.self.inside.set c.self.inside.nulls c.self.inside.numbers.items c.args.self.now c.self.view_is c.self.invariant c.requires c.push.new.self.items c.args.change c.push.ensures.items c.in-None.is).are

pub overflow_add-self : goal.overflow_add-self
overflow_add-self c = omega (arith, push_set_fits c.self.inside.set c.self.inside.nulls c.self.inside.numbers.items c.args.self.now c.self.view_is c.self.invariant c.requires c.len.result c.len.ensures.value)

pub overflow_add-self-in-Some-None : goal.overflow_add-self-in-Some-None
overflow_add-self-in-Some-None c = omega (arith, push_null_fits c.self.inside.set c.self.inside.nulls c.self.inside.numbers.items c.args.self.now c.self.view_is c.self.invariant c.requires c.len-in-Some-None.result c.len-in-Some-None.ensures.value)

pub invariant_of-self-in-Some-None : goal.invariant_of-self-in-Some-None
invariant_of-self-in-Some-None c = (push_null c.self.inside.set c.self.inside.nulls c.self.inside.numbers.items c.args.self.now c.self.view_is c.self.invariant c.requires c.len.result c.len-in-Some-None.result c.len.ensures.value c.len-in-Some-None.ensures.value c.push-in-Some-None.new.self.items c.args.change c.push-in-Some-None.ensures.items (let cell : c.in-Some-None.field-0 ≡ None = rw c.in-Some-None.is at c.in-Some-None.field-0-is in c.in-Some-None.is ∙ ap (λ (x : Cell). Some x) cell)).are

pub overflow_add-self-in-Some-Some : goal.overflow_add-self-in-Some-Some
overflow_add-self-in-Some-Some c = omega (arith, push_set_fits c.self.inside.set c.self.inside.nulls c.self.inside.numbers.items c.args.self.now c.self.view_is c.self.invariant c.requires c.len-in-Some-Some.result c.len-in-Some-Some.ensures.value)

pub invariant_of-self-in-Some-Some : goal.invariant_of-self-in-Some-Some
invariant_of-self-in-Some-Some c = (push_number c.self.inside.set c.self.inside.nulls c.self.inside.numbers.items c.args.self.now c.self.view_is c.self.invariant c.requires c.len-in-Some-Some.result c.in-Some-Some.number c.len-in-Some-Some.ensures.value c.push-in-Some-Some.new.self.items c.args.change c.push-in-Some-Some.ensures.items (let cell : c.in-Some-Some.field-0 ≡ Some c.in-Some-Some.number = rw c.in-Some-Some.is at c.in-Some-Some.field-0-is in c.in-Some-Some.is ∙ ap (λ (x : Cell). Some x) cell)).are

pub returns-in-None : goal.returns-in-None
returns-in-None c = (push_kept c.self.inside.set c.self.inside.nulls c.self.inside.numbers.items c.args.self.now c.self.view_is c.self.invariant c.requires c.push.new.self.items c.args.change c.push.ensures.items c.in-None.is).tells

pub returns-in-Some-None : goal.returns-in-Some-None
returns-in-Some-None c = (push_null c.self.inside.set c.self.inside.nulls c.self.inside.numbers.items c.args.self.now c.self.view_is c.self.invariant c.requires c.len.result c.len-in-Some-None.result c.len.ensures.value c.len-in-Some-None.ensures.value c.push-in-Some-None.new.self.items c.args.change c.push-in-Some-None.ensures.items (let cell : c.in-Some-None.field-0 ≡ None = rw c.in-Some-None.is at c.in-Some-None.field-0-is in c.in-Some-None.is ∙ ap (λ (x : Cell). Some x) cell)).tells

pub returns-in-Some-Some : goal.returns-in-Some-Some
returns-in-Some-Some c = (push_number c.self.inside.set c.self.inside.nulls c.self.inside.numbers.items c.args.self.now c.self.view_is c.self.invariant c.requires c.len-in-Some-Some.result c.in-Some-Some.number c.len-in-Some-Some.ensures.value c.push-in-Some-Some.new.self.items c.args.change c.push-in-Some-Some.ensures.items (let cell : c.in-Some-Some.field-0 ≡ Some c.in-Some-Some.number = rw c.in-Some-Some.is at c.in-Some-Some.field-0-is in c.in-Some-Some.is ∙ ap (λ (x : Cell). Some x) cell)).tells
