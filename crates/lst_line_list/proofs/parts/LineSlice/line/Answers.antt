use Rattle.lst_line_list.proofs.Slicing.{item_of_part}
use Rattle.lst_line_list.proofs.parts.LineSlice.line.Goals as goal

pub returns : goal.returns
returns c = item_of_part c.self.inside.list.now c.args.self.now c.self.inside.start c.self.inside.end c.args.place c.line.result c.self.view_is c.requires c.line.ensures
