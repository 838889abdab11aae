use Rattle.std.proofs.Common.{◌+◌, arith}
use Rattle.lst_kernel.proofs.Counts.{counts_fit, counts_more, counts_fold, total_low, count_is}
use Rattle.lst_kernel.proofs.count_by_lanes.Goals as goal

pub overflow_add-counts : goal.overflow_add-counts
overflow_add-counts c = counts_fit c.args.begin c.args.times.now c.loop-at.at c.loop-at.counts c.seen_lanes-seen.result (omega arith) c.loop-at-test.true c.seen_lanes-seen.ensures c.loop-at.invariant.counted

pub loop-at-preserved : goal.loop-at-preserved
loop-at-preserved c = record {
  within = omega arith;
  steps = (c.loop-at.invariant.steps.0 + 1, omega arith);
  counted = counts_more c.args.begin c.args.times.now c.loop-at.at c.loop-at.counts c.seen_lanes-seen.result c.loop-at.auto.counts.0 c.loop-at-test.true c.seen_lanes-seen.ensures c.loop-at.invariant.counted;
}

pub overflow_add-result : goal.overflow_add-result
overflow_add-result c = counts_fold c.args.begin c.args.times.now c.loop-at.at c.loop-at.counts (omega arith) c.loop-at.invariant.counted

pub overflow_cast-result : goal.overflow_cast-result
overflow_cast-result c = record { fits = omega (arith, total_low c.args.begin c.args.times.now c.loop-at.at c.loop-at.counts c.loop-at.invariant.counted) }

pub returns : goal.returns
returns c = count_is c.args.begin c.args.times.now c.loop-at.at c.loop-at.counts (omega arith) c.loop-at.invariant.counted
