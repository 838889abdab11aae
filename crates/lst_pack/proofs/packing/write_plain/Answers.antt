use Rattle.std.proofs.Common.{arith, sym}
use Rattle.lst_pack.proofs.packing.write_plain.Goals as goal

pub returns-clause-packs : goal.returns-clause-packs
returns-clause-packs c = record {
  first = c.loop-place.invariant.first;
  long = omega arith;
  has = tt;
  full = c.told-values;
  stands = λ place low. sym (c.loop-place.invariant.done place (omega arith));
}
