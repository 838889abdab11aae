use Rattle.lst_test_steps.proofs.Stepping.{begun}
use Rattle.lst_test_steps.proofs.operations.begins.Goals as goal

pub returns-in-Ok : goal.returns-in-Ok
returns-in-Ok c = begun _ _ _ _ _ _ _ c.requires.crew c.requires.driven c.requires.out.at c.begin.ensures.seat c.in-Ok.ensures.ok
