use Rattle.std.proofs.Common.{◌∷◌, [], ◌++◌, ap, ◌∙◌}
use Rattle.lst_model.specs.declared.lines.Line.{Line}
use Rattle.lst_line_list.proofs.Behind.{update_told}
use Rattle.lst_line_list.proofs.list.LineList.push_update.Goals as goal

pub returns-clause-ok : goal.returns-clause-ok
returns-clause-ok c = c.in_ok-push_columns.ensures.ok
    ∙ ap (λ (l : Line). c.args.self.now ++ l ∷ []) (update_told c.args.session c.args.key 0 c.set_bits.result c.null_bits.result c.numbers-columns.result.now c.args.patch.now c.set_bits.ensures c.null_bits.ensures c.numbers-columns.ensures.numbers)
