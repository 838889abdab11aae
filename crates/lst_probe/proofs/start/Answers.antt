-- The high bits of the hash, as many as `bits`.
use Rattle.std.proofs.Common.{◌<◌, ◌≤◌, ◌^◌, refl, arith}
use Rattle.std.proofs.Math.Facts.{Fits-of_lt}
use Rattle.std.proofs.Math.Nat.{pow-le-pow_right}
use Rattle.lst_probe.specs.Run.{start_of}
use Rattle.lst_probe.proofs.Runs.{start_of-lt}
use Rattle.lst_probe.proofs.start.Goals as goal

pub overflow_cast-result-2 : goal.overflow_cast-result-2
unfolding start_of
overflow_cast-result-2 c = let low : start_of c.args.value c.args.bits < 2 ^ c.args.bits = start_of-lt c.args.value c.args.bits (omega arith) in
    let high : 2 ^ c.args.bits ≤ 2 ^ 32 = pow-le-pow_right {n = 2} (omega arith) c.requires.few in Fits-of_lt (omega (arith, low, high))

pub returns-clause-start : goal.returns-clause-start
unfolding start_of
returns-clause-start c = refl

pub returns-clause-below : goal.returns-clause-below
unfolding start_of
returns-clause-below c = start_of-lt c.args.value c.args.bits (omega arith)
