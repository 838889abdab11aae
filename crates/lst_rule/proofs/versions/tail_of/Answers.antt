use Rattle.std.proofs.Common.{ap, arith, ◌*◌, ◌+◌}
use Rattle.lst_rule.proofs.Backs.{product_few}
use Rattle.lst_layout.specs.declared.layout.Layout.{Layout}
use Rattle.lst_rule.proofs.versions.tail_of.Goals as goal

pub overflow_mul-result : goal.overflow_mul-result
overflow_mul-result c = let l = c.args.store.now.layout in let p = product_few c.args.range l.limits.ranges l.limits.tails c.layout.result.now.limits.tails c.requires.range l.valid.ranges.1 l.valid.tails.1 (ap (λ (y : Layout). y.limits.tails) c.layout.ensures) in omega arith

pub overflow_add-result : goal.overflow_add-result
overflow_add-result c = let l = c.args.store.now.layout in let p = product_few c.args.range l.limits.ranges l.limits.tails c.layout.result.now.limits.tails c.requires.range l.valid.ranges.1 l.valid.tails.1 (ap (λ (y : Layout). y.limits.tails) c.layout.ensures) in
    let q = c.requires.number in let few = l.valid.tails.1 in omega arith

pub returns : goal.returns
returns c = ap (λ (y : Layout). c.args.range * y.limits.tails + c.args.number) c.layout.ensures
