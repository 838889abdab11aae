use Rattle.std.proofs.Common.{◌≡◌, ℕ, ◌+◌, ap, subst, arith}
use Rattle.lst_layout.specs.declared.layout.Layout.{Layout}
use Rattle.lst_rule.specs.Rule.{knows}
use Rattle.lst_write.specs.Cells.{cell_word}
use Rattle.lst_write.specs.Appending.{IsDraft}
use Rattle.lst_write.proofs.Storing.{store_enabled, store_stands, stores_on, stores_start}
use Rattle.lst_write.proofs.tails.store_words.Goals as goal

pub loop-place-init : goal.loop-place-init
loop-place-init c = stores_start _ _ _ _ c.requires.seat c.requires.host c.requires.draft

pub cell_word-word-requires-clause-place : goal.cell_word-word-requires-clause-place
cell_word-word-requires-clause-place c = (c.loop-place.invariant.some, c.loop-place-test.true)

pub step_store_cell-requires-clause-enabled : goal.step_store_cell-requires-clause-enabled
step_store_cell-requires-clause-enabled c = store_enabled _ _ _ _ _ _ c.loop-place.invariant c.cell_word-word.result c.requires.tail c.requires.blank

pub step_store_cell-requires-clause-stands : goal.step_store_cell-requires-clause-stands
step_store_cell-requires-clause-stands c = store_stands _ _ _ _ _ _ c.loop-place.invariant c.cell_word-word.result

pub loop-place-preserved : goal.loop-place-preserved
loop-place-preserved c = let same = ap (λ (l : Layout). l.limits.columns) c.layout.ensures in let few = c.args.store.now.layout.valid.columns.1 in
    stores_on _ _ _ _ _ _ c.loop-place.invariant c.step_store_cell.new.seat c.cell_word-word.result _ (let h = c.loop-place-test.true in omega arith) few c.cell_word-word.ensures c.step_store_cell.ensures.seat c.step_store_cell.ensures.made

pub returns-clause-draft : goal.returns-clause-draft
returns-clause-draft c = let same = ap (λ (l : Layout). l.limits.columns) c.layout.ensures in let columns : ℕ = c.args.store.now.layout.limits.columns in
    subst (λ (p : ℕ). IsDraft columns (knows c.loop-place.seat.view c.args.s).draft (cell_word c.args.encoding c.args.head c.args.act.now) p) (let h = c.loop-place-test.false in let low = c.loop-place.invariant.low in let e : c.loop-place.place ≡ 3 + columns = omega arith in e) c.loop-place.invariant.draft
