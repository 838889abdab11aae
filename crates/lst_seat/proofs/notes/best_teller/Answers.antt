use Rattle.std.proofs.Common.{rules}
use Rattle.std.proofs.Common.{arith}
use Rattle.lst_seat.proofs.Telling.{best_hosted}
use Rattle.lst_seat.proofs.notes.best_teller.Goals as goal

pub returns-clause-hosted : goal.returns-clause-hosted
returns-clause-hosted c = best_hosted c.args.seat.now.view c.loop-s.s c.loop-s.teller c.loop-s.invariant (let past = c.loop-s-test.false in omega arith) c.consider.ensures c.requires.some

pub loop-s-preserved-then-tells_more : goal.loop-s-preserved-then-tells_more
loop-s-preserved-then-tells_more c = search rules
