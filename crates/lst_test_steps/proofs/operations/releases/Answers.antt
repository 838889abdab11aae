use Rattle.lst_test_steps.specs.declared.stages.Stage.TheVariants.{In}
use Rattle.lst_test_steps.proofs.Stepping.{drives}
use Rattle.lst_test_steps.proofs.operations.releases.Goals as goal

pub returns : goal.returns
returns c = drives _ _ _ _ _ c.requires.crew c.release.ensures.seat c.release.ensures.view In c.requires.driven.low c.requires.driven.hand c.release.ensures.free
