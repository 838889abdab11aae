use Rattle.std.proofs.Common.{◌<◌, refl, subst, sym}
use Rattle.lst_layout.specs.declared.limits.Limits.{Limits}
use Rattle.lst_merge.proofs.Statuses.{tail_merger}
use Rattle.lst_merge.proofs.Reading.{inspects_word, held_value}
use Rattle.lst_merge.proofs.tails.number_in.Goals as goal

pub returns-clause-inspects : goal.returns-clause-inspects
returns-clause-inspects c = inspects_word c.args.seat.now.view c.load_cell_from.new.seat.view _ c.args.tail.identifier _ c.load_cell_from.result (tail_merger c.args.store.now c.args.seat.now c.args.tail c.requires.seat c.requires.tail) c.requires.host c.load_cell_from.ensures.looked

pub returns-clause-cell : goal.returns-clause-cell
returns-clause-cell c = held_value c.args.seat.now.view c.load_cell_from.new.seat.view _ c.args.tail.identifier _ c.load_cell_from.result (tail_merger c.args.store.now c.args.seat.now c.args.tail c.requires.seat c.requires.tail) c.requires.host c.load_cell_from.ensures.looked c.args.encoding c.args.column (subst (λ (l : Limits). c.args.column < l.columns) (sym c.requires.seat.limits) c.requires.column) refl c.requires.encoding c.requires.number
