use Rattle.std.proofs.Common.{arith}
use Rattle.lst_script.proofs.PairFronts.{no_pairs, pairs_more, pairs_ended}
use Rattle.lst_script.proofs.pair_fronts.pairs_in_front.Goals as goal

pub loop-pair-init : goal.loop-pair-init
loop-pair-init c = (no_pairs c.args.names.now c.args.text.now _ c.leave_all.ensures, omega arith)

pub set_next_pair-requires-clause-wide : goal.set_next_pair-requires-clause-wide
set_next_pair-requires-clause-wide c = c.loop-pair.invariant.0.wide

pub loop-pair-preserved : goal.loop-pair-preserved
loop-pair-preserved c =
    let set = c.in_ok-rest.ensures in
    (pairs_more c.args.names.now c.loop-pair._pair c.args.text.now c.loop-pair.rest.now _ c.loop-pair.changes c.set_next_pair.new.changes set.0 c.loop-pair.invariant.0 set.1 set.2 set.3, omega (arith, c.loop-pair-test.true))

pub returns-in-Some : goal.returns-in-Some
returns-in-Some c = pairs_ended c.args.names.now c.loop-pair._pair c.args.text.now c.loop-pair.rest.now c.in-Some.behind.now c.loop-pair.changes c.loop-pair.invariant.0 c.loop-pair.invariant.1 c.in-Some.ensures

pub returns : goal.returns
returns c = pairs_ended c.args.names.now c.loop-pair._pair c.args.text.now c.loop-pair.rest.now c.in_ok-behind.behind.now c.loop-pair.changes c.loop-pair.invariant.0 c.loop-pair.invariant.1 c.in_ok-behind.ensures
