use Rattle.std.proofs.Common.{Err, ap, ◌∙◌}
use Rattle.lst_test_steps.proofs.Stepping.{crew_on, pair_rests}
use Rattle.lst_test_steps.proofs.turns.open_as_of.Goals as goal

pub returns-in-Ok-clause-pair : goal.returns-in-Ok-clause-pair
returns-in-Ok-clause-pair c = pair_rests _ _ _ _ c.args.pair.now c.requires.crew c.as_of.ensures.seat c.in-Ok.ensures.ok.1.1.view c.requires.pair

pub returns-in-Ok-clause-crew : goal.returns-in-Ok-clause-crew
returns-in-Ok-clause-crew c = crew_on _ _ _ _ _ c.requires.crew c.as_of.ensures.seat c.in-Ok.ensures.ok.1.1.view

pub returns-in-Err-Future-clause-pair : goal.returns-in-Err-Future-clause-pair
returns-in-Err-Future-clause-pair c = pair_rests _ _ _ _ c.args.pair.now c.requires.crew c.as_of.ensures.seat (c.as_of.ensures.future c.in-Err-Future.clock (c.in-Err-Future.is ∙ ap Err c.in-Err-Future.field-0-is)).1.load.view c.requires.pair
