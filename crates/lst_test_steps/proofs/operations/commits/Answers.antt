use Rattle.lst_test_steps.proofs.Stepping.{committed}
use Rattle.lst_test_steps.proofs.operations.commits.Goals as goal

pub returns-in-Ok : goal.returns-in-Ok
returns-in-Ok c = committed _ _ _ _ _ _ _ c.requires.crew c.requires.out c.in-Ok.ensures.ok.0 c.in-Ok.ensures.ok.1 c.commit-time.ensures.commits c.commit-time.ensures.seat
