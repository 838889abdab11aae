use Rattle.lst_line_list.proofs.Slicing.{part_of_part}
use Rattle.lst_line_list.proofs.parts.LineSlice.part.Goals as goal

pub returns : goal.returns
returns c = part_of_part c.self.inside.list.now c.args.self.now c.self.inside.start c.self.inside.end c.args.start c.args.end c.self.view_is c.requires.order c.requires.within
