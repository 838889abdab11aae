use Rattle.lst_script.specs.Heads.{columns_of}
use Rattle.lst_script.proofs.Beginnings.{line_added}
use Rattle.lst_script.proofs.fronts.push_front.Goals as goal

pub returns : goal.returns
returns c = line_added c.args.limits.now (columns_of c.args.heads) c.args.text.now c.in-Some.ensures.0 c.in-Some.call.now c.in-Some.session _ _ c.in-Some.ensures.1 c.in-Some.ensures.2 c.in-Some.ensures.3 c.push_call.result c.push_call.ensures
