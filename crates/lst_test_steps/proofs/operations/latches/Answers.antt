use Rattle.lst_test_steps.proofs.Stepping.{placed, latched}
use Rattle.lst_test_steps.proofs.operations.latches.Goals as goal

pub returns-in_default : goal.returns-in_default
returns-in_default c = placed _ _ _ _ _ c.requires.crew c.requires.driven c.place.ensures.seat c.place.ensures.works c.place.ensures.free

pub returns-in-Ok-latch : goal.returns-in-Ok-latch
returns-in-Ok-latch c = latched _ _ _ _ _ _ _ _ _ c.requires.crew c.requires.driven c.latch.ensures.seat c.place.ensures.works c.place.ensures.free c.in-Ok.ensures.ok.1 c.in-Ok-latch.ensures.ok
