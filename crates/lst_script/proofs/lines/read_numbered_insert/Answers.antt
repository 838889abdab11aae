use Rattle.std.proofs.Common.{◌≡◌, length, ◌∙◌}
use Rattle.std.proofs.lemmas.List.{length-map}
use Rattle.lst_script.specs.Texts.{texts}
use Rattle.lst_script.proofs.Places.{insert_unread}
use Rattle.lst_script.proofs.lines.read_numbered_insert.Goals as goal

pub returns-in_default-read_row : goal.returns-in_default-read_row
returns-in_default-read_row c =
    let cells = texts c.args.cells.now in
    let as_many : length cells ≡ c.args.count = length-map c.args.cells.now (λ slice. slice.now) ∙ c.if-cells-count.false in
    λ limits. insert_unread limits c.args.count c.args.key.now cells as_many c.in_default-read_row.ensures
