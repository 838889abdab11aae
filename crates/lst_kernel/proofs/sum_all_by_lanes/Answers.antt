use Rattle.std.proofs.Common.{◌+◌, take, sym, ◌∙◌, arith}
use Rattle.std.proofs.Math.Seq.{take-add}
use Rattle.std.proofs.lemmas.Simd.{length-chunk}
use lib.Lanes.{chunk}
use Rattle.lst_kernel.proofs.Sums.{low_step, high_step, all_fit, all_fold, all_is}
use Rattle.lst_kernel.proofs.sum_all_by_lanes.Goals as goal

pub overflow_add-high_halves : goal.overflow_add-high_halves
overflow_add-high_halves c = all_fit c.args.values.now (omega arith) c.type_inv.values c.loop-at.at c.loop-at.high_halves c.loop-at-test.true c.loop-at.invariant.high

pub loop-at-preserved : goal.loop-at-preserved
loop-at-preserved c = let vs = c.args.values.now in let i = c.loop-at.at in let r = chunk i 8 vs in
    let e = length-chunk i 8 vs c.loop-at-test.true in
    let more = take-add i 8 vs in
    record {
      within = omega arith;
      steps = (c.loop-at.invariant.steps.0 + 1, omega arith);
      low = low_step c.loop-at.sums r (take i vs) (take (i + 8) vs) (c.loop-at.auto.sums.0 ∙ sym e) c.loop-at.invariant.low more;
      high = high_step c.loop-at.high_halves r (take i vs) (take (i + 8) vs) c.loop-at.auto.high_halves.0 e c.loop-at.invariant.high more;
    }

pub overflow_add-high_halves-2 : goal.overflow_add-high_halves-2
overflow_add-high_halves-2 c = all_fold c.args.values.now (omega arith) c.type_inv.values c.loop-at.at c.loop-at.high_halves c.loop-at.invariant.high

pub returns : goal.returns
returns c = all_is c.args.values.now (omega arith) c.type_inv.values c.loop-at.at c.sum_from.result c.loop-at.sums c.loop-at.high_halves (omega arith) c.loop-at.invariant.low c.loop-at.invariant.high c.sum_from.ensures
