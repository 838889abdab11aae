use Rattle.std.proofs.Common.{◌≡◌, ℕ, ◌+◌, ◌<◌, List, length, get_or, sym, subst, ap, ◌∙◌, arith, refl, not, true≢false}
use Rattle.std.specs.Prelude.{Option, Some, None, cond, slice_index, slice_get, slice_set}
use Rattle.std.proofs.lemmas.Option.{slice_get-get_or}
use Rattle.lst_layout.specs.declared.layout.Layout.{Layout}
use Rattle.lst_model.specs.Cells.{Cell, cell_of, cells_of, patched, has_bit}
use Rattle.lst_model.specs.CellLaws.{length-cells_of}
use Rattle.lst_rule.specs.Seats.{Sitting}
use Rattle.lst_rule.specs.Copies.{Version}
use Rattle.lst_walk.specs.Readers.{IsAt}
use Rattle.lst_walk.specs.Patches.{merged, newest}
use Rattle.lst_walk.specs.Walks.{Merges}
use Rattle.lst_walk.proofs.Reading.{at_on, version_on}
use Rattle.lst_walk.proofs.Lists.{merged_at, patched_first, cell_first, length-merged, newest_set, newest_held, newest_left}
use Rattle.lst_walk.proofs.Filling.{merges_start, merges_next, merges_same, merges_whole}
use Rattle.lst_walk.proofs.Acting.{bit_set, bit_clear, columns_of}
use Rattle.lst_walk.proofs.rows.set_under.Goals as goal
use Rattle.lst_walk.proofs.rows.set_under.Goals.{then-has_column+then-is_none, else-has_column, else-has_column-via-then-has_column+else-is_none, else-has_column-via-else-has_column}

pub loop-column-init : goal.loop-column-init
loop-column-init c = merges_start c.args.store.now c.args.s c.args.tail (λ (d : Version). merged c.args.patch.now (patched c.args.encoding.mask 0 (cells_of c.args.encoding.nulls 0 d.values))) c.args.seat.now c.args.patch.now c.requires.reader

pub cell_from-requires-clause-version : goal.cell_from-requires-clause-version
cell_from-requires-clause-version c = version_on c.args.seat.now.view c.loop-column.seat.view c.args.s c.args.tail c.loop-column.invariant.watched c.requires.version

pub loop-column-preserved : goal.loop-column-preserved
loop-column-preserved c =
    let v = c.args.seat.now.view in let k : ℕ = c.loop-column.column in let mask : ℕ = c.args.encoding.mask in let nulls : ℕ = c.args.encoding.nulls in
    let here : Option Cell = get_or c.loop-column.patch k None in
    let low : k < length c.args.patch.now = (let l = ap (λ (y : Layout). y.limits.columns) c.layout.ensures in let t = c.loop-column-test.true in let w = c.requires.wide in omega arith) in
    let target : Version → List (Option Cell) = λ d. merged c.args.patch.now (patched mask 0 (cells_of nulls 0 d.values)) in
    let few : (d : Version) → IsAt v c.args.s c.args.tail d → k < length d.values = λ d at. (let e = columns_of c.args.store.now.layout.limits v c.args.s c.args.tail d c.requires.reader.seat_of.limits at in let w = c.requires.wide in omega arith) in
    let at_k : (d : Version) → IsAt v c.args.s c.args.tail d → slice_get (target d) k ≡ Some (newest here (cond (has_bit mask k) (Some (cell_of nulls k (slice_index d.values k))) None)) = λ d at.
    merged_at c.args.patch.now (patched mask 0 (cells_of nulls 0 d.values)) k here (cond (has_bit mask k) (Some (get_or (cells_of nulls 0 d.values) k None)) None)
    (slice_get-get_or c.args.patch.now k None low ∙ ap (λ x. Some x) (sym (c.loop-column.invariant.rest k (omega arith))))
    (patched_first mask (cells_of nulls 0 d.values) k (let len = length-cells_of nulls 0 d.values in let f = few d at in omega arith))
    ∙ ap (λ (x : Cell). Some (newest here (cond (has_bit mask k) (Some x) None))) (cell_first nulls d.values k (few d at)) in
    elim c.if-has_column.branch [
      | then-has_column+then-is_none w ↦ let now = slice_set c.loop-column.patch k (Some w.cell_from.result) in
          subst (λ (seat : Sitting). Merges c.args.store.now v seat c.args.s c.args.tail (k + 1) c.args.patch.now c.if-has_column.patch target) (sym w.seat-is)
          (subst (λ (cells : List (Option Cell)). Merges c.args.store.now v w.cell_from.new.seat c.args.s c.args.tail (k + 1) c.args.patch.now cells target) (sym w.patch-is)
          (merges_next c.args.store.now c.args.s c.args.tail target v c.loop-column.seat w.cell_from.new.seat k c.args.patch.now c.loop-column.patch (Some w.cell_from.result) c.loop-column.invariant w.cell_from.ensures.reader w.cell_from.ensures.watched w.cell_from.ensures.loads low
          (λ d at. at_k d at ∙ ap (λ o. Some o) (newest_set here (has_bit mask k) (cell_of nulls k (slice_index d.values k)) (w.is_none.ensures ∙ ap (λ b. not b) w.if-is_none.true) (bit_set mask k (w.if-has_column.ensures.0 refl))
          ∙ ap (λ x. Some x) (sym (w.cell_from.ensures.cell d (at_on v c.loop-column.seat.view c.args.s c.args.tail d c.loop-column.invariant.watched at)))))))
      | else-has_column w ↦
          subst (λ (seat : Sitting). Merges c.args.store.now v seat c.args.s c.args.tail (k + 1) c.args.patch.now c.if-has_column.patch target) (sym w.seat-is)
          (subst (λ (cells : List (Option Cell)). Merges c.args.store.now v c.loop-column.seat c.args.s c.args.tail (k + 1) c.args.patch.now cells target) (sym w.patch-is)
          (merges_same c.args.store.now c.args.s c.args.tail target v c.loop-column.seat k c.args.patch.now c.loop-column.patch c.loop-column.invariant
          (λ d at. at_k d at ∙ ap (λ o. Some o) (elim w.else-has_column.branch [
            | else-has_column-via-then-has_column+else-is_none u ↦ newest_held here (has_bit mask k) (cell_of nulls k (slice_index d.values k)) (u.is_none.ensures ∙ ap (λ b. not b) u.if-is_none.false)
            | else-has_column-via-else-has_column u ↦ newest_left here (has_bit mask k) (cell_of nulls k (slice_index d.values k)) (bit_clear mask k (λ h. true≢false (sym (u.if-has_column.ensures.1 h))))
          ]))))
    ]

pub returns-clause-patch : goal.returns-clause-patch
returns-clause-patch c = λ d at. merges_whole c.args.store.now c.args.s c.args.tail (λ (e : Version). merged c.args.patch.now (patched c.args.encoding.mask 0 (cells_of c.args.encoding.nulls 0 e.values))) c.args.seat.now.view c.loop-column.seat c.loop-column.column c.args.patch.now c.loop-column.patch c.loop-column.invariant d at
    (length-merged c.args.patch.now (patched c.args.encoding.mask 0 (cells_of c.args.encoding.nulls 0 d.values))) (let l = ap (λ (y : Layout). y.limits.columns) c.layout.ensures in let t = c.loop-column-test.false in let w = c.requires.wide in omega arith)

pub cell_from-requires-clause-reader : goal.cell_from-requires-clause-reader
cell_from-requires-clause-reader c = c.loop-column.invariant.reader

pub cell_from-requires-clause-first : goal.cell_from-requires-clause-first
cell_from-requires-clause-first c = c.requires.first

pub returns-clause-reader : goal.returns-clause-reader
returns-clause-reader c = c.loop-column.invariant.reader

pub returns-clause-watched : goal.returns-clause-watched
returns-clause-watched c = c.loop-column.invariant.watched

pub returns-clause-loads : goal.returns-clause-loads
returns-clause-loads c = c.loop-column.invariant.loads
