use Rattle.std.proofs.Common.{ap, ◌∙◌}
use Rattle.lst_layout.specs.declared.layout.Layout.{Layout}
use Rattle.lst_core_state.specs.Cells.{record_of}
use Rattle.lst_second.proofs.Gathered.{seeks_on, value_probes, other_counted, both_probes, both_hold, both_counted}
use Rattle.lst_second.proofs.gathering.holder.Goals as goal

pub returns-then-load_cell-sought-clause-probes : goal.returns-then-load_cell-sought-clause-probes
returns-then-load_cell-sought-clause-probes c = value_probes c.args.store.now c.args.seat.now c.load_cell.new.seat c.args.s c.args.sought c.args.offset c.args.tail c.load_cell.result c.requires.seeks c.requires.stands c.load_cell.ensures.looked

pub returns-then-load_cell-sought-clause-seeks : goal.returns-then-load_cell-sought-clause-seeks
returns-then-load_cell-sought-clause-seeks c = seeks_on c.args.store.now c.args.seat.now c.load_cell.new.seat c.args.s c.args.sought c.requires.seeks (returns-then-load_cell-sought-clause-probes c) c.load_cell.ensures.seat

pub returns-then-load_cell-sought-clause-none : goal.returns-then-load_cell-sought-clause-none
returns-then-load_cell-sought-clause-none c = other_counted c.args.store.now c.args.seat.now c.load_cell.new.seat c.args.s c.args.sought c.args.offset c.args.tail c.load_cell.result c.requires.seeks c.requires.stands c.load_cell.ensures.looked c.if-load_cell-sought.true

pub returns-clause-probes : goal.returns-clause-probes
returns-clause-probes c = both_probes c.args.store.now c.args.seat.now c.load_cell.new.seat c.args.s c.args.sought c.args.offset c.args.tail c.load_cell.result c.requires.seeks c.requires.stands c.load_cell.ensures.looked c.if-load_cell-sought.false c.load_cell-encoding.new.seat c.load_cell-encoding.result c.record_of.result c.load_cell-encoding.ensures.looked
    (c.record_of.ensures ∙ ap (λ (y : Layout). record_of y.limits.tails c.args.tail c.load_cell-encoding.result) c.layout.ensures)

pub returns-clause-seeks : goal.returns-clause-seeks
returns-clause-seeks c = seeks_on c.args.store.now c.args.seat.now c.load_cell-encoding.new.seat c.args.s c.args.sought c.requires.seeks (returns-clause-probes c) c.load_cell-encoding.ensures.seat

pub returns-clause-some : goal.returns-clause-some
returns-clause-some c = let told = c.record_of.ensures ∙ ap (λ (y : Layout). record_of y.limits.tails c.args.tail c.load_cell-encoding.result) c.layout.ensures in (
  both_hold c.args.store.now c.args.seat.now c.load_cell.new.seat c.args.s c.args.sought c.args.offset c.args.tail c.load_cell.result c.requires.seeks c.requires.stands c.load_cell.ensures.looked c.if-load_cell-sought.false c.load_cell-encoding.new.seat c.load_cell-encoding.result c.record_of.result c.load_cell-encoding.ensures.looked told,
  both_counted c.args.store.now c.args.seat.now c.load_cell.new.seat c.args.s c.args.sought c.args.offset c.args.tail c.load_cell.result c.requires.seeks c.requires.stands c.load_cell.ensures.looked c.if-load_cell-sought.false c.load_cell-encoding.new.seat c.load_cell-encoding.result c.record_of.result c.load_cell-encoding.ensures.looked told,
)
