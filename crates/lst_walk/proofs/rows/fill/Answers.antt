use Rattle.std.proofs.Common.{Bool, inl, inr, refl, sym, subst, ap, ◌∙◌}
use Rattle.lst_walk.specs.Packed.{skims_same, skims_on}
use Rattle.lst_walk.specs.Filling.{GoesOn}
use Rattle.lst_walk.proofs.Rowing.{fill_start, fill_next}
use Rattle.std.proofs.Common.{arith}
use Rattle.lst_layout.specs.declared.layout.Layout.{Layout}
use Rattle.lst_walk.proofs.rows.fill.Goals as goal
use Rattle.lst_walk.proofs.rows.fill.Goals.{else-is_used-via-then-is_used+else-is_whole, else-is_used-via-else-is_used}

pub loop-column-init : goal.loop-column-init
loop-column-init c = fill_start c.args.store.now c.args.seat.now c.args.s c.args.rec.number c.args.number c.args.entries.now c.args.patch.now c.requires.reader c.requires.wide

pub fill_column-requires-clause-walk : goal.fill_column-requires-clause-walk
fill_column-requires-clause-walk c = (c.requires.walk.0, (c.loop-column.invariant.goes c.requires.walk.0 c.requires.walk.1).pages)

pub returns-in-None-clause-skims : goal.returns-in-None-clause-skims
returns-in-None-clause-skims c = skims_on c.args.seat.now.view c.loop-column.seat.view c.fill_column.new.seat.view c.args.s c.loop-column.invariant.skims c.fill_column.ensures.skims

pub returns-in-None-clause-filled : goal.returns-in-None-clause-filled
returns-in-None-clause-filled c = λ v p. c.in-None.ensures.filled v c.loop-column.is_used (c.loop-column.invariant.goes v p)

pub loop-column-preserved : goal.loop-column-preserved
loop-column-preserved c = fill_next c.args.store.now c.args.seat.now c.loop-column.seat c.fill_column.new.seat c.args.s c.args.rec.number c.args.number c.loop-column.column c.args.entries.now c.args.patch.now c.loop-column.patch c.fill_column.new.patch c.loop-column.is_used c.in-Some.used c.loop-column.invariant c.fill_column.ensures.reader c.fill_column.ensures.skims c.in-Some.ensures.filled c.in-Some.ensures.sets

pub returns-then-is_whole-clause-filled : goal.returns-then-is_whole-clause-filled
returns-then-is_whole-clause-filled c = λ v p. (
  subst (λ (u : Bool). GoesOn c.args.store.now v c.loop-column.seat c.args.s c.args.rec.number c.args.number c.args.entries.now c.loop-column.patch u) c.if-is_used.true (c.loop-column.invariant.goes v p),
  sym c.is_whole.ensures ∙ c.if-is_whole.true,
)

pub returns-else-is_used-clause-filled : goal.returns-else-is_used-clause-filled
returns-else-is_used-clause-filled c = λ v p. (c.loop-column.invariant.goes v p).pages

pub returns-else-is_used-clause-sets : goal.returns-else-is_used-clause-sets
returns-else-is_used-clause-sets c = (
  elim c.else-is_used.branch [
    | else-is_used-via-then-is_used+else-is_whole w ↦ inr (sym w.is_whole.ensures ∙ w.if-is_whole.false)
    | else-is_used-via-else-is_used w ↦ inl (c.loop-column.invariant.same w.if-is_used.false)
  ],
  λ column low none. c.loop-column.invariant.done column (let l = ap (λ (y : Layout). y.limits.columns) c.layout.ensures in let t = c.loop-column-test.false in omega arith) none,
)

pub returns-then-number-last-clause-skims : goal.returns-then-number-last-clause-skims
returns-then-number-last-clause-skims c = skims_same c.args.seat.now.view c.args.s

pub returns-then-number-last-clause-sets : goal.returns-then-number-last-clause-sets
returns-then-number-last-clause-sets c = (inl refl, λ column low none. (let l = c.requires.last column in let t = c.if-number-last.true in omega arith))
