use Rattle.std.proofs.Common.{◌∷◌, [], ◌++◌, ap, ◌∙◌}
use Rattle.lst_model.specs.declared.lines.Line.{Line}
use Rattle.lst_line_list.proofs.Behind.{insert_told, insert_nulls}
use Rattle.lst_line_list.proofs.list.LineList.push_insert.Goals as goal

pub push_columns-requires-clause-are : goal.push_columns-requires-clause-are
push_columns-requires-clause-are c = (c.numbers-columns.ensures.few, insert_nulls c.row_null_bits.result c.numbers-columns.result.now c.args.row.now c.row_null_bits.ensures c.numbers-columns.ensures.numbers)

pub returns-clause-ok : goal.returns-clause-ok
returns-clause-ok c = c.in_ok-push_columns.ensures.ok
    ∙ ap (λ (l : Line). c.args.self.now ++ l ∷ []) (insert_told c.row_null_bits.result c.numbers-columns.result.now c.args.row.now c.row_null_bits.ensures c.numbers-columns.ensures.numbers c.args.session c.args.key 0)
