use Rattle.std.proofs.Common.{rules}
use Rattle.std.proofs.Common.{arith, take, ◌++◌, length-append}
use Rattle.std.proofs.lemmas.List.{length-take}
use Rattle.std.proofs.KnownBytes.{Consumes-trans}
use Rattle.lst_io.proofs.whole.read_all.Goals as goal

pub returns-then-len-count-clause-part : goal.returns-then-len-count-clause-part
returns-then-len-count-clause-part g c = record {
  bytes = c.loop-count.bytes.items ++ take c.in-Ok.count c.read.new.into;
  consumed = Consumes-trans _ _ _ _ _ c.loop-count.invariant.read c.in-Ok.ensures.bytes.0;
  many = omega (arith, length-append c.loop-count.bytes.items (take c.in-Ok.count c.read.new.into), c.in-Ok.ensures.bound.0, c.in-Ok.ensures.bound.1, c.read.auto.into, length-take c.min-room.result c.loop-count.piece);
}

pub returns-then-is_err-clause-part : goal.returns-then-is_err-clause-part
returns-then-is_err-clause-part g c = record {
  bytes = c.loop-count.bytes.items ++ take c.in-Ok.count c.read.new.into;
  consumed = Consumes-trans _ _ _ _ _ c.loop-count.invariant.read c.in-Ok.ensures.bytes.0;
  few = omega (arith, length-append c.loop-count.bytes.items (take c.in-Ok.count c.read.new.into), c.in-Ok.ensures.bound.1);
}

pub returns-then-count-eq0-clause-part : goal.returns-then-count-eq0-clause-part
returns-then-count-eq0-clause-part g c = search rules
