use Rattle.std.proofs.Common.{◌*◌, ◌/◌, length, arith}
use Rattle.std.proofs.lemmas.List.{length-take}
use Rattle.std.proofs.lemmas.List.Sums.{count_by-le-length}
use Rattle.lst_kernel.specs.Entries.{is_seen}
use Rattle.lst_kernel.proofs.Counts.{split_count}
use Rattle.lst_kernel.proofs.count_seen.Goals as goal

pub count_by_lanes-requires : goal.count_by_lanes-requires
count_by_lanes-requires c = (length c.args.times.now / 8, omega arith, omega (arith, length-take (length c.args.times.now / 8 * 8) c.args.times.now))

pub overflow_add-result : goal.overflow_add-result
overflow_add-result c =
    let s = split_count c.args.begin c.args.times.now (length c.args.times.now / 8 * 8) in
    record { fits = omega (arith, count_by-le-length (is_seen c.args.begin) c.args.times.now) }

pub returns : goal.returns
returns c = let s = split_count c.args.begin c.args.times.now (length c.args.times.now / 8 * 8) in omega arith
