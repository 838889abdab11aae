use Rattle.std.proofs.Common.{arith}
use Rattle.std.specs.Int.{w64}
use Rattle.lst_log.specs.Reading.{number_at, many_at}
use Rattle.lst_log.proofs.Loops.{goes_on, stops, is_done}
use Rattle.lst_log.proofs.read.numbers_of.Goals as goal

pub returns-in-None : goal.returns-in-None
returns-in-None c =
    stops (number_at w64) c.loop.numbers.items c.args.count c.loop.counter c.loop.rest.now (many_at (number_at w64) c.args.count c.args.bytes.now) c.loop-test.true c.in-None.ensures c.loop.invariant.read

pub loop-preserved : goal.loop-preserved
loop-preserved c = record {
  read = rw c.push.ensures.items (goes_on (number_at w64) c.loop.numbers.items c.args.count c.loop.counter c.loop.rest.now c.in-Some.number c.in-Some.after.now (many_at (number_at w64) c.args.count c.args.bytes.now) c.loop-test.true c.in-Some.ensures c.loop.invariant.read);
  size = let n = c.loop.invariant.size in let m = c.push.ensures.len in omega arith;
}

pub returns : goal.returns
returns c = is_done (number_at w64) c.loop.numbers.items c.args.count c.loop.counter c.loop.rest.now (many_at (number_at w64) c.args.count c.args.bytes.now) c.loop-test.false c.loop.invariant.read
