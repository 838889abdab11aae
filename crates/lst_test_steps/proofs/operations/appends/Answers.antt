use Rattle.lst_test_steps.proofs.Stepping.{full}
use Rattle.lst_test_steps.proofs.operations.appends.Goals as goal

pub returns-in-Err : goal.returns-in-Err
returns-in-Err c = full _ _ _ _ _ _ c.requires.crew c.requires.driven c.append.ensures.seat c.in-Err.ensures.err
