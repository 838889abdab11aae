use Rattle.lst_script.proofs.Beginnings.{kept_here}
use Rattle.lst_script.proofs.fronts.change_behind_space.Goals as goal

pub returns-in-Some : goal.returns-in-Some
returns-in-Some c = kept_here c.args.text.now c.in_ok-change.change.now c.in-Some.rest.now c.in_ok-change.ensures c.in-Some.ensures
