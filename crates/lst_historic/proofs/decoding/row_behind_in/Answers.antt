use Rattle.std.proofs.Common.{◌≡◌, ◌∙◌, ◌-◌, ◌/◌, ◌%◌, ◌≤◌, drop, ap, sym, subst, arith}
use Rattle.std.specs.Prelude.{IsSome}
use Rattle.lst_historic.specs.Reading.{cells_behind}
use Rattle.lst_historic.proofs.Decoded.{tag_some, row_absent, row_cells, row_present}
use Rattle.lst_historic.proofs.decoding.row_behind_in.Goals as goal

pub number_in-tag-requires : goal.number_in-tag-requires
number_in-tag-requires c = tag_some c.args.cells.now.items (drop c.args.place c.args.bytes.now) c.requires.read

pub first_in-end-requires : goal.first_in-end-requires
first_in-end-requires c =
    let cells = c.args.cells.now.items in
    let tag = c.number_in-tag.result.0 in
    let behind = drop c.number_in-tag.result.1 c.args.bytes.now in
    subst (λ t. IsSome (cells_behind ((t - 1) % 256) ((t - 1) / 256) cells behind)) c.if-tag-eq2.true
    (row_cells cells (drop c.args.place c.args.bytes.now) tag behind c.number_in-tag.ensures (omega (arith, c.if-tag-eq2.true)) c.requires.read)

pub returns-then-tag-eq2-clause-read : goal.returns-then-tag-eq2-clause-read
returns-then-tag-eq2-clause-read c =
    let cells = c.args.cells.now.items in
    let tag = c.number_in-tag.result.0 in
    let behind = drop c.number_in-tag.result.1 c.args.bytes.now in
    row_present cells (drop c.args.place c.args.bytes.now) tag behind c.first_in-end.new.cells.items (drop c.first_in-end.result c.args.bytes.now)
    c.number_in-tag.ensures (omega (arith, c.if-tag-eq2.true))
    (c.first_in-end.ensures ∙ ap (λ t. cells_behind ((t - 1) % 256) ((t - 1) / 256) cells behind) (sym c.if-tag-eq2.true))

pub second_in-end-requires : goal.second_in-end-requires
second_in-end-requires c =
    let cells = c.args.cells.now.items in
    let tag = c.number_in-tag.result.0 in
    let behind = drop c.number_in-tag.result.1 c.args.bytes.now in
    subst (λ t. IsSome (cells_behind ((t - 1) % 256) ((t - 1) / 256) cells behind)) c.if-tag-eq3.true
    (row_cells cells (drop c.args.place c.args.bytes.now) tag behind c.number_in-tag.ensures (omega (arith, c.if-tag-eq3.true)) c.requires.read)

pub returns-then-tag-eq3-clause-read : goal.returns-then-tag-eq3-clause-read
returns-then-tag-eq3-clause-read c =
    let cells = c.args.cells.now.items in
    let tag = c.number_in-tag.result.0 in
    let behind = drop c.number_in-tag.result.1 c.args.bytes.now in
    row_present cells (drop c.args.place c.args.bytes.now) tag behind c.second_in-end.new.cells.items (drop c.second_in-end.result c.args.bytes.now)
    c.number_in-tag.ensures (omega (arith, c.if-tag-eq3.true))
    (c.second_in-end.ensures ∙ ap (λ t. cells_behind ((t - 1) % 256) ((t - 1) / 256) cells behind) (sym c.if-tag-eq3.true))

pub returns-then-tag-eq0-clause-read : goal.returns-then-tag-eq0-clause-read
returns-then-tag-eq0-clause-read c =
    row_absent c.args.cells.now.items (drop c.args.place c.args.bytes.now) c.number_in-tag.result.0 (drop c.number_in-tag.result.1 c.args.bytes.now) c.number_in-tag.ensures c.if-tag-eq0.true

pub cells_in-end-requires : goal.cells_in-end-requires
cells_in-end-requires c =
    let cells = c.args.cells.now.items in
    let tag = c.number_in-tag.result.0 in
    let behind = drop c.number_in-tag.result.1 c.args.bytes.now in
    let few : tag ≤ 256 = c.if-tag-le256.true in
    let mask : (tag - 1) % 256 ≡ tag - 1 = omega (arith, few) in
    let none : (tag - 1) / 256 ≡ 0 = omega (arith, few) in
    subst (λ m. IsSome (cells_behind m 0 cells behind)) mask
    (subst (λ n. IsSome (cells_behind ((tag - 1) % 256) n cells behind)) none (row_cells cells (drop c.args.place c.args.bytes.now) tag behind c.number_in-tag.ensures (omega (arith, c.if-tag-eq0.false)) c.requires.read))

pub returns-then-tag-le256-clause-read : goal.returns-then-tag-le256-clause-read
returns-then-tag-le256-clause-read c =
    let cells = c.args.cells.now.items in
    let tag = c.number_in-tag.result.0 in
    let behind = drop c.number_in-tag.result.1 c.args.bytes.now in
    let few : tag ≤ 256 = c.if-tag-le256.true in
    let mask : (tag - 1) % 256 ≡ tag - 1 = omega (arith, few) in
    let none : (tag - 1) / 256 ≡ 0 = omega (arith, few) in
    row_present cells (drop c.args.place c.args.bytes.now) tag behind c.cells_in-end.new.cells.items (drop c.cells_in-end.result c.args.bytes.now)
    c.number_in-tag.ensures (omega (arith, c.if-tag-eq0.false))
    (c.cells_in-end.ensures ∙ ap (λ m. cells_behind m 0 cells behind) (sym mask) ∙ ap (λ n. cells_behind ((tag - 1) % 256) n cells behind) (sym none))

pub cells_in-end-requires-2 : goal.cells_in-end-requires-2
cells_in-end-requires-2 c =
    row_cells c.args.cells.now.items (drop c.args.place c.args.bytes.now) c.number_in-tag.result.0 (drop c.number_in-tag.result.1 c.args.bytes.now) c.number_in-tag.ensures (omega (arith, c.if-tag-eq0.false)) c.requires.read

pub returns-clause-read : goal.returns-clause-read
returns-clause-read c =
    row_present c.args.cells.now.items (drop c.args.place c.args.bytes.now) c.number_in-tag.result.0 (drop c.number_in-tag.result.1 c.args.bytes.now) c.cells_in-end-2.new.cells.items (drop c.cells_in-end-2.result c.args.bytes.now)
    c.number_in-tag.ensures (omega (arith, c.if-tag-eq0.false)) c.cells_in-end-2.ensures
