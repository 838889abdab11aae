use Rattle.std.proofs.Common.{arith}
use Rattle.std.proofs.lemmas.Grind.{common_steps}
use Rattle.lst_pack.proofs.Counting.{one_run_is_equal}
use Rattle.lst_pack.proofs.packing.write_constant.Goals as goal

pub returns-clause-packs : goal.returns-clause-packs
returns-clause-packs c = record {
  first = grind (arith, common_steps);
  long = grind (arith, common_steps);
  has = tt;
  full = c.told-values;
  stands = λ place low. let e = one_run_is_equal c.args.values.now c.requires place low in grind (arith, common_steps);
}
