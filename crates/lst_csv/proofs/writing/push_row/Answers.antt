use Rattle.std.proofs.Common.{◌≡◌, ◌≤◌, decimal, length, subst, rules}
use Rattle.csv.specs.Writing.{default_writer, field_text}
use Rattle.lst_csv.proofs.Written.{no_cells, one_more_cell, row_ends}
use Rattle.lst_csv.proofs.writing.push_row.Goals as goal

pub loop-column-init : goal.loop-column-init
loop-column-init c = no_cells c.args.row.now c.args.bytes.now.items (field_text default_writer (decimal c.args.key)) c.push_number.new.bytes.items c.in_ok-push_number.ensures

pub loop-column-preserved : goal.loop-column-preserved
loop-column-preserved c = one_more_cell c.args.row.now c.args.bytes.now.items (field_text default_writer (decimal c.args.key)) c.loop-column.column c.cell.result c.loop-column.bytes.items c.push_cell.new.bytes.items c.cell.ensures c.loop-column.invariant c.in_ok-push_cell.ensures

pub returns : goal.returns
returns c =
    let size : c.len-column-end.result ≡ length c.args.row.now = search rules in
    row_ends c.args.key c.ranges.key.fits c.args.row.now c.loop-column.column c.args.bytes.now.items c.loop-column.bytes.items c.push.new.self.items
    (subst (λ n. n ≤ c.loop-column.column) size c.loop-column-test.false) c.loop-column.invariant c.in_ok-push.ensures.items
