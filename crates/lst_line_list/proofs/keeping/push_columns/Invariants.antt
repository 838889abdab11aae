use Rattle.std.proofs.Common.{◌≡◌, ◌+◌, ◌++◌, drop}
use Rattle.lst_line_list.proofs.keeping.push_columns.Given as goal

abbrev pub invariant-loop-column : goal.invariant-loop-column
invariant-loop-column l =
    (l.numbers.items ++ drop l.column-index l.columns ≡ l.fn.numbers.items ++ l.columns)
    × ((l.numbers.len ≡ l.fn.numbers.len + l.column-index) × (l.numbers.cap ≡ l.fn.numbers.cap))
