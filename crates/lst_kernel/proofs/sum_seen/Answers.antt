use Rattle.std.proofs.Common.{◌*◌, ◌/◌, length, arith}
use Rattle.std.proofs.lemmas.List.{length-take}
use Rattle.lst_kernel.proofs.Sums.{split_sum, all_low}
use Rattle.lst_kernel.proofs.sum_seen.Goals as goal

pub overflow_add-result : goal.overflow_add-result
overflow_add-result c =
    let s = split_sum c.args.begin (length c.args.values.now / 8 * 8) c.args.values.now c.args.times.now in
    let low = all_low c.args.begin c.args.values.now c.args.times.now c.requires.long c.requires.few c.type_inv.values in
    record { fits = omega arith }

pub returns : goal.returns
returns c = let s = split_sum c.args.begin (length c.args.values.now / 8 * 8) c.args.values.now c.args.times.now in omega arith

pub sum_by_lanes-requires-clause-few : goal.sum_by_lanes-requires-clause-few
sum_by_lanes-requires-clause-few c = (length c.args.values.now / 8, omega arith, omega (arith, length-take (length c.args.values.now / 8 * 8) c.args.values.now))
