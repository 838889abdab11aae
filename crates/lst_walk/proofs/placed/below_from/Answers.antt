use Rattle.std.proofs.Common.{arith, refl}
use Rattle.lst_rule.specs.Rule.{knows}
use Rattle.lst_rule.proofs.Backs.{linked_word, back_is, back_watched, back_few}
use Rattle.lst_rule.proofs.Finds.{loads_cell}
use Rattle.lst_walk.proofs.placed.below_from.Goals as goal

pub load_cell_from-requires-clause-place : goal.load_cell_from-requires-clause-place
load_cell_from-requires-clause-place c = linked_word c.args.seat.now.view.limits (knows c.args.seat.now.view c.args.s).facts c.args.tail 2 (omega arith) c.requires.version

pub overflow_cast-result : goal.overflow_cast-result
overflow_cast-result c = let low = back_few _ _ _ _ _ c.requires.host c.load_cell_from.ensures.looked c.requires.version in omega arith

pub returns-clause-watched : goal.returns-clause-watched
returns-clause-watched c = back_watched _ _ _ _ _ c.requires.host c.load_cell_from.ensures.looked c.requires.version

pub returns-clause-back : goal.returns-clause-back
returns-clause-back c rec d is known at = back_is _ _ _ _ _ c.requires.host c.load_cell_from.ensures.looked rec d is known at

pub returns-clause-loads : goal.returns-clause-loads
returns-clause-loads c = loads_cell c.args.seat.now.view c.load_cell_from.new.seat.view c.args.s c.args.tail c.args.tail 2 c.load_cell_from.result refl c.load_cell_from.ensures.looked
