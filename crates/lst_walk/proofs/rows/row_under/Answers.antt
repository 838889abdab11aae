use Rattle.std.proofs.Common.{ℕ, ◌<◌, length, map, sym, ap, ◌∙◌, arith}
use Rattle.std.specs.Prelude.{Some, None, unwrap_or, slice_index_or}
use Rattle.std.proofs.lemmas.Option.{slice_get-get_or}
use Rattle.lst_layout.specs.declared.layout.Layout.{Layout}
use Rattle.lst_model.specs.Cells.{Cell, cells_of, overlaid}
use Rattle.lst_model.specs.CellLaws.{length-cells_of}
use Rattle.lst_model.proofs.Overlays.{length-overlaid}
use Rattle.lst_rule.specs.Copies.{Version}
use Rattle.lst_walk.proofs.Reading.{at_on, version_on}
use Rattle.lst_walk.proofs.Lists.{overlaid_at, cell_first}
use Rattle.lst_walk.proofs.Filling.{fills_start, fills_next, fills_whole}
use Rattle.lst_walk.proofs.Acting.{columns_of}
use Rattle.lst_walk.proofs.rows.row_under.Goals as goal

pub cell_under-requires-clause-reader : goal.cell_under-requires-clause-reader
cell_under-requires-clause-reader c = c.loop-column.invariant.reader

pub cell_under-requires-clause-version : goal.cell_under-requires-clause-version
cell_under-requires-clause-version c = version_on c.args.seat.now.view c.loop-column.seat.view c.args.s c.args.tail c.loop-column.invariant.watched c.requires.version

pub push-requires : goal.push-requires
push-requires c = let e = c.loop-column.invariant.count in let l = ap (λ (y : Layout). y.limits.columns) c.layout.ensures in let t = c.loop-column-test.true in let few = c.args.store.now.layout.valid.columns.1 in omega arith

pub loop-column-init : goal.loop-column-init
loop-column-init c = fills_start c.args.store.now c.args.s c.args.tail (λ (d : Version). overlaid (cells_of c.args.nulls 0 d.values) c.args.patch.now) c.args.seat.now c.of_numbers-row.result (c.of_numbers-row.ensures ∙ ap (map (λ (n : ℕ). Some n)) c.new.ensures) c.requires.reader

pub loop-column-preserved : goal.loop-column-preserved
loop-column-preserved c = let low : c.loop-column.column < length c.args.patch.now = (let l = ap (λ (y : Layout). y.limits.columns) c.layout.ensures in let t = c.loop-column-test.true in let w = c.requires.wide in omega arith) in
    fills_next c.args.store.now c.args.s c.args.tail (λ (d : Version). overlaid (cells_of c.args.nulls 0 d.values) c.args.patch.now) c.args.seat.now.view c.loop-column.seat c.cell_under.new.seat c.loop-column.column c.loop-column.row c.push.new.self c.cell_under.result c.loop-column.invariant
    c.cell_under.ensures.reader c.cell_under.ensures.watched c.cell_under.ensures.loads c.push.ensures
    (λ d at. overlaid_at (cells_of c.args.nulls 0 d.values) c.args.patch.now c.loop-column.column (slice_index_or c.args.patch.now c.loop-column.column None) (let len = length-cells_of c.args.nulls 0 d.values in let e = columns_of c.args.store.now.layout.limits c.args.seat.now.view c.args.s c.args.tail d c.requires.reader.seat_of.limits at in let w = c.requires.wide in omega arith) (slice_get-get_or c.args.patch.now c.loop-column.column None low)
    ∙ (ap (λ (x : Cell). Some (unwrap_or (slice_index_or c.args.patch.now c.loop-column.column None) x))
    (cell_first c.args.nulls d.values c.loop-column.column (let e = columns_of c.args.store.now.layout.limits c.args.seat.now.view c.args.s c.args.tail d c.requires.reader.seat_of.limits at in let w = c.requires.wide in omega arith))
    ∙ ap (λ x. Some x) (sym (c.cell_under.ensures.cell d (at_on c.args.seat.now.view c.loop-column.seat.view c.args.s c.args.tail d c.loop-column.invariant.watched at)))))

pub returns-clause-row : goal.returns-clause-row
returns-clause-row c = λ d at. fills_whole c.args.store.now c.args.s c.args.tail (λ (d : Version). overlaid (cells_of c.args.nulls 0 d.values) c.args.patch.now) c.args.seat.now.view c.loop-column.seat c.loop-column.column c.loop-column.row c.loop-column.invariant d at
    (let e = columns_of c.args.store.now.layout.limits c.args.seat.now.view c.args.s c.args.tail d c.requires.reader.seat_of.limits at in let l = ap (λ (y : Layout). y.limits.columns) c.layout.ensures in let t = c.loop-column-test.false in let n = length-overlaid (cells_of c.args.nulls 0 d.values) c.args.patch.now in let p = length-cells_of c.args.nulls 0 d.values in omega arith)
