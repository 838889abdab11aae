use Rattle.std.proofs.Common.{decimal}
use Rattle.csv.specs.Writing.{default_writer, field_text}
use Rattle.lst_csv.proofs.Written.{HasCells}
use Rattle.lst_csv.proofs.writing.push_row.Given as goal

abbrev pub invariant-loop-column : goal.invariant-loop-column
invariant-loop-column l = HasCells l.row l.fn.bytes.items (field_text default_writer (decimal l.key)) l.column l.bytes.items
