use Rattle.std.proofs.Common.{arith, ap, sym, not, ◌∙◌}
use Rattle.lst_core_state.specs.declared.known.Known.{Known}
use Rattle.lst_layout.specs.declared.layout.Layout.{Layout}
use Rattle.lst_rule.specs.Rule.{knows}
use Rattle.lst_rule.proofs.Watching.{same_pins}
use Rattle.lst_walk.specs.Packed.{skims_same, skims_on}
use Rattle.lst_walk.proofs.Loading.{pin_some}
use Rattle.lst_walk.proofs.Straight.{paged_walk_start, paged_walk_next, paged_whole}
use Rattle.lst_walk.proofs.whole.paged.Goals as goal

pub loop-column-init : goal.loop-column-init
loop-column-init c = paged_walk_start c.args.store.now c.args.seat.now c.args.s c.args.rec.number c.args.number c.args.row.now c.requires.empty c.requires.reader

pub page_cell-requires-clause-pinned : goal.page_cell-requires-clause-pinned
page_cell-requires-clause-pinned c = let some = pin_some c.pinned.result (knows c.args.seat.now.view c.args.s).pages.session.pin c.pinned.ensures (c.is_none.ensures ∙ ap (λ b. not b) c.if-is_none.false) in let same = (same_pins (knows c.args.seat.now.view c.args.s) (knows c.loop-column.seat.view c.args.s) c.loop-column.invariant.skims.watched.watches).pin in omega arith

pub loop-column-preserved : goal.loop-column-preserved
loop-column-preserved c = paged_walk_next c.args.store.now c.args.seat.now c.loop-column.seat c.page_cell.new.seat c.args.s c.args.rec.number c.args.number c.loop-column.column c.loop-column.row c.push.new.self c.in-Some.cell c.requires.number (let l = ap (λ (y : Layout). y.limits.columns) c.layout-2.ensures in let t = c.loop-column-test.true in omega arith) c.loop-column.invariant c.page_cell.ensures.reader c.page_cell.ensures.skims c.in-Some.ensures.told c.push.ensures

pub push-requires : goal.push-requires
push-requires c = let e = c.loop-column.invariant.count in let l = ap (λ (y : Layout). y.limits.columns) c.layout-2.ensures in let t = c.loop-column-test.true in let few = c.args.store.now.layout.valid.columns.1 in omega arith

pub returns-in-None-clause-skims : goal.returns-in-None-clause-skims
returns-in-None-clause-skims c = skims_on c.args.seat.now.view c.loop-column.seat.view c.page_cell.new.seat.view c.args.s c.loop-column.invariant.skims c.page_cell.ensures.skims

pub returns-clause-told : goal.returns-clause-told
returns-clause-told c = λ yes v p. let l = ap (λ (y : Layout). y.limits.columns) c.layout-2.ensures in let t = c.loop-column-test.false in let some = c.args.store.now.layout.valid.columns.0 in paged_whole c.args.store.now v c.loop-column.seat c.args.s c.args.rec.number c.args.number c.loop-column.column c.loop-column.row (omega arith) (omega arith) (c.loop-column.invariant.goes v p)

pub returns-then-is_none-clause-skims : goal.returns-then-is_none-clause-skims
returns-then-is_none-clause-skims c = skims_same c.args.seat.now.view c.args.s

pub page_cell-requires-clause-begin : goal.page_cell-requires-clause-begin
page_cell-requires-clause-begin c = c.begin-begin.ensures ∙ sym (ap (λ (k : Known). k.begin) c.loop-column.invariant.skims.watched.watches.is)
