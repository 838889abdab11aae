use Rattle.std.proofs.Common.{◌++◌, ◌∙◌, ℕ, List, ap}
use Rattle.lst_line_list.proofs.Behind.{insert_kept}
use Rattle.lst_line_list.proofs.keeping.keep_insert.Goals as goal

pub returns : goal.returns
returns c = insert_kept c.args.session c.args.key c.args.row c.len.result c.nulls.result c.args.numbers.now.items c.push_reserved.new.self.items c.extend_from_slice.new.self.items
    c.len.ensures.len c.len.ensures.few c.nulls.ensures.nulls c.push_reserved.ensures.items
    (c.in-Ok.ensures.items ∙ ap (λ (ns : List ℕ). c.push_reserved.new.self.items ++ ns) c.numbers.ensures.numbers)
