use Rattle.std.proofs.Common.{arith}
use Rattle.lst_rule.specs.Rule.{knows}
use Rattle.lst_rule.proofs.Backs.{linked_word, back_is, back_few}
use Rattle.lst_changes.proofs.Holding.{still_holds}
use Rattle.lst_changes.proofs.Timing.{steady_cell}
use Rattle.lst_changes.proofs.changes.below.Goals as goal

pub overflow_cast-result : goal.overflow_cast-result
overflow_cast-result c = let low = back_few _ _ _ _ _ c.requires.holder.host c.load_cell.ensures.looked c.requires.version in omega arith

pub returns-clause-steady : goal.returns-clause-steady
returns-clause-steady c = steady_cell _ _ _ _ c.args.tail 2 c.requires.holder.host (linked_word c.args.seat.now.view.limits (knows c.args.seat.now.view c.args.s).facts c.args.tail 2 (omega arith) c.requires.version) c.load_cell.ensures.looked

pub returns-clause-back : goal.returns-clause-back
returns-clause-back c rec d is known at = back_is _ _ _ _ _ c.requires.holder.host c.load_cell.ensures.looked rec d is known at

pub load_cell-requires-clause-seat : goal.load_cell-requires-clause-seat
load_cell-requires-clause-seat c = c.requires.holder.seat_of

pub load_cell-requires-clause-host : goal.load_cell-requires-clause-host
load_cell-requires-clause-host c = c.requires.holder.host

pub returns-clause-holder : goal.returns-clause-holder
returns-clause-holder c = still_holds _ _ _ _ c.requires.holder c.load_cell.ensures.seat (steady_cell _ _ _ _ c.args.tail 2 c.requires.holder.host (linked_word c.args.seat.now.view.limits (knows c.args.seat.now.view c.args.s).facts c.args.tail 2 (omega arith) c.requires.version) c.load_cell.ensures.looked)
