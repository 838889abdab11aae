use Rattle.lst_line_list.proofs.Behind.{update_kept}
use Rattle.lst_line_list.proofs.keeping.keep_update.Goals as goal

pub returns : goal.returns
returns c = update_kept c.args.session c.args.key c.args.patch c.len.result c.set_bits.result c.nulls.result c.args.numbers.now.items c.push_reserved.new.self.items c.push_changes.new.numbers.items
    c.len.ensures.len c.len.ensures.few c.set_bits.ensures c.nulls.ensures.nulls c.push_reserved.ensures.items c.push_changes.ensures
