use Rattle.std.proofs.Common.{◌+◌, sym, ◌∙◌, arith}
use Rattle.lst_kernel.proofs.Sums.{seen_up_to, seen_more, seen_long, total_is, low_step, high_step, high_fits, high_folds}
use Rattle.lst_kernel.proofs.sum_by_lanes.Goals as goal

pub overflow_add-high_halves : goal.overflow_add-high_halves
overflow_add-high_halves c = high_fits c.args.begin c.args.values.now c.args.times.now c.requires.long (omega arith) c.type_inv.values c.loop-at.at c.loop-at.high_halves c.seen_lanes-seen.result (seen_long c.args.begin c.loop-at.at 8 c.args.values.now c.args.times.now c.seen_lanes-seen.result c.requires.long c.loop-at-test.true c.seen_lanes-seen.ensures) c.seen_lanes-seen.ensures c.loop-at.invariant.high

pub loop-at-preserved : goal.loop-at-preserved
loop-at-preserved c = let b = c.args.begin in let vs = c.args.values.now in let ts = c.args.times.now in let i = c.loop-at.at in let r = c.seen_lanes-seen.result in
    let more = seen_more b i 8 vs ts r c.seen_lanes-seen.ensures in
    let e = seen_long b i 8 vs ts r c.requires.long c.loop-at-test.true c.seen_lanes-seen.ensures in
    record {
      within = omega arith;
      steps = (c.loop-at.invariant.steps.0 + 1, omega arith);
      low = low_step c.loop-at.sums r (seen_up_to b vs ts i) (seen_up_to b vs ts (i + 8)) (c.loop-at.auto.sums.0 ∙ sym e) c.loop-at.invariant.low more;
      high = high_step c.loop-at.high_halves r (seen_up_to b vs ts i) (seen_up_to b vs ts (i + 8)) c.loop-at.auto.high_halves.0 e c.loop-at.invariant.high more;
    }

pub overflow_add-high_halves-2 : goal.overflow_add-high_halves-2
overflow_add-high_halves-2 c = high_folds c.args.begin c.args.values.now c.args.times.now c.requires.long (omega arith) c.type_inv.values c.loop-at.at c.loop-at.high_halves c.loop-at.invariant.high

pub returns : goal.returns
returns c =
    total_is c.args.begin c.args.values.now c.args.times.now c.requires.long (omega arith) c.type_inv.values c.loop-at.at c.sum_from.result c.loop-at.sums c.loop-at.high_halves (omega arith)
    c.loop-at.invariant.low c.loop-at.invariant.high c.sum_from.ensures
