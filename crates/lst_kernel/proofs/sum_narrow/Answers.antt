use Rattle.std.proofs.Common.{◌+◌, take, sym, ◌∙◌, arith}
use Rattle.std.proofs.Math.Seq.{take-add}
use Rattle.std.proofs.lemmas.Simd.{length-chunk}
use lib.Lanes.{chunk}
use Rattle.lst_kernel.proofs.Sums.{low_step, narrow_step, narrow_is, narrow_lanes, narrow_fold, narrow_chunk}
use Rattle.lst_kernel.proofs.sum_narrow.Goals as goal

pub loop-at-preserved : goal.loop-at-preserved
loop-at-preserved c = let vs = c.args.values.now in let i = c.loop-at.at in let r = chunk i 8 vs in
    record {
      within = omega arith;
      steps = (c.loop-at.invariant.steps.0 + 1, omega arith);
      low = low_step c.loop-at.sums r (take i vs) (take (i + 8) vs) (c.loop-at.auto.sums.0 ∙ sym (length-chunk i 8 vs c.loop-at-test.true)) c.loop-at.invariant.low (take-add i 8 vs);
      narrow = narrow_step vs c.loop-at.bits i c.loop-at.auto.bits.0 c.loop-at-test.true c.loop-at.invariant.narrow;
      every = λ all. narrow_lanes c.loop-at.bits r (c.loop-at.invariant.every all) (narrow_chunk vs i (omega arith) all);
    }

pub returns-then-bits-clause-sum : goal.returns-then-bits-clause-sum
returns-then-bits-clause-sum c =
    narrow_is c.args.values.now c.loop-at.sums c.loop-at.bits c.loop-at.at (omega arith) (omega arith) (omega arith) c.loop-at.invariant.low c.loop-at.invariant.narrow (omega arith)

pub returns-else-bits-clause-none : goal.returns-else-bits-clause-none
returns-else-bits-clause-none c = λ all none. omega (arith, narrow_fold 0 c.loop-at.bits (omega arith) (c.loop-at.invariant.every all), c.if-bits.false)
