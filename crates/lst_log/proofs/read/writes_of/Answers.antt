use Rattle.lst_log.specs.Reading.{write_at, many_at}
use Rattle.lst_log.proofs.Loops.{goes_on, stops, is_done}
use Rattle.lst_log.proofs.read.writes_of.Goals as goal

pub returns-in-None : goal.returns-in-None
returns-in-None c =
    stops (write_at c.args.columns) c.loop.writes.items c.args.count c.loop.counter c.loop.rest.now (many_at (write_at c.args.columns) c.args.count c.args.bytes.now) c.loop-test.true c.in-None.ensures c.loop.invariant

pub loop-preserved : goal.loop-preserved
loop-preserved c =
    rw c.in_ok-push-in-Some.ensures.items (goes_on (write_at c.args.columns) c.loop.writes.items c.args.count c.loop.counter c.loop.rest.now c.in-Some.write c.in-Some.after.now (many_at (write_at c.args.columns) c.args.count c.args.bytes.now) c.loop-test.true c.in-Some.ensures c.loop.invariant)

pub returns : goal.returns
returns c = is_done (write_at c.args.columns) c.loop.writes.items c.args.count c.loop.counter c.loop.rest.now (many_at (write_at c.args.columns) c.args.count c.args.bytes.now) c.loop-test.false c.loop.invariant
