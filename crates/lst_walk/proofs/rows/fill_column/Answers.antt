use Rattle.std.proofs.Common.{not, refl, sym, ap, ◌∙◌, arith, true≢false}
use Rattle.std.specs.Prelude.{Some, slice_set}
use Rattle.lst_walk.specs.Packed.{skims_same}
use Rattle.lst_walk.proofs.Rowing.{fill_packed, fill_none, fill_some, goes_used, goes_same, unset_at, set_at, sets_used}
use Rattle.lst_walk.proofs.rows.fill_column.Goals as goal
use Rattle.lst_walk.proofs.rows.fill_column.Goals.{else-number-entry-via-then-number-entry+else-is_none, else-number-entry-via-else-number-entry}

pub cell_of-requires-clause-packed : goal.cell_of-requires-clause-packed
cell_of-requires-clause-packed c = fill_packed c.args.store.now c.requires.walk.0 c.args.seat.now c.args.s c.args.rec.number c.args.number c.args.column c.args.entries.now c.args.patch.now c.requires.walk.1 c.requires.column c.requires.number c.if-number-entry.true

pub returns-in-None-clause-filled : goal.returns-in-None-clause-filled
returns-in-None-clause-filled c = λ v was goes. fill_none c.args.store.now v c.args.seat.now c.args.s c.args.rec.number c.args.number c.args.column c.args.entries.now c.args.patch.now goes.pages c.requires.column c.requires.number c.if-number-entry.true (unset_at c.args.patch.now c.args.column (let w = c.requires.wide in let low = c.requires.column in omega arith) (c.is_none.ensures ∙ ap (λ b. not b) c.if-is_none.true)) c.cell_of.new.seat c.cell_of.ensures.skims.watched
    (c.in-None.ensures.cell (goes.pages.serves c.args.column c.requires.column (let n = c.requires.number in let u = c.if-number-entry.true in omega arith)).words (goes.pages.serves c.args.column c.requires.column (let n = c.requires.number in let u = c.if-number-entry.true in omega arith)).in_hand)

pub returns-in-Some-clause-filled : goal.returns-in-Some-clause-filled
returns-in-Some-clause-filled c = λ v was goes. goes_used c.args.store.now v c.cell_of.new.seat c.args.s c.args.rec.number c.args.number c.args.entries.now (slice_set c.args.patch.now c.args.column (Some c.in-Some.cell)) was
    (fill_some c.args.store.now v c.args.seat.now c.args.s c.args.rec.number c.args.number c.args.column c.args.entries.now c.args.patch.now goes.pages c.requires.column c.requires.number c.if-number-entry.true (unset_at c.args.patch.now c.args.column (let w = c.requires.wide in let low = c.requires.column in omega arith) (c.is_none.ensures ∙ ap (λ b. not b) c.if-is_none.true)) c.cell_of.new.seat c.cell_of.ensures.skims c.cell_of.ensures.reader c.in-Some.cell
    (c.in-Some.ensures.cell (goes.pages.serves c.args.column c.requires.column (let n = c.requires.number in let u = c.if-number-entry.true in omega arith)).words (goes.pages.serves c.args.column c.requires.column (let n = c.requires.number in let u = c.if-number-entry.true in omega arith)).in_hand))

pub returns-in-Some-clause-sets : goal.returns-in-Some-clause-sets
returns-in-Some-clause-sets c = sets_used c.args.number c.args.entries.now c.args.column c.args.patch.now c.in-Some.cell (let w = c.requires.wide in let low = c.requires.column in omega arith)

pub returns-else-number-entry-clause-skims : goal.returns-else-number-entry-clause-skims
returns-else-number-entry-clause-skims c = skims_same c.args.seat.now.view c.args.s

pub returns-else-number-entry-clause-filled : goal.returns-else-number-entry-clause-filled
returns-else-number-entry-clause-filled c = λ v was goes. goes_same c.args.store.now v c.args.seat.now c.args.s c.args.rec.number c.args.number c.args.entries.now c.args.patch.now was goes

pub returns-else-number-entry-clause-sets : goal.returns-else-number-entry-clause-sets
returns-else-number-entry-clause-sets c = (
  λ e. refl,
  refl,
  λ none. elim c.else-number-entry.branch [
    | else-number-entry-via-then-number-entry+else-is_none w ↦ absurd (true≢false (sym (w.is_none.ensures ∙ ap (λ b. not b) w.if-is_none.false) ∙ set_at c.args.patch.now c.args.column (let wide = c.requires.wide in let low = c.requires.column in omega arith) none))
    | else-number-entry-via-else-number-entry w ↦ (let n = w.if-number-entry.false in omega arith)
  ],
  λ other none. none,
)
