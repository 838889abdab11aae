use Rattle.lst_model.specs.declared.lines.Call.TheVariants.{Insert}
use Rattle.lst_script.specs.Pairs.{filled}
use Rattle.lst_script.proofs.fronts.push_insert.Goals as goal

pub returns : goal.returns
returns c = (Insert c.in-Some.key (filled c.insert_in_front.new.row), c.in-Some.ensures, c.in_ok-push_insert.ensures.ok)
