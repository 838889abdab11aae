use Rattle.lst_test_steps.proofs.Stepping.{crew_on, pair_rests}
use Rattle.lst_test_steps.proofs.pairs.load_word.Goals as goal

pub returns-clause-crew : goal.returns-clause-crew
returns-clause-crew c = crew_on _ _ _ _ _ c.requires.crew c.load.ensures.seat c.load.ensures.looked.view

pub returns-clause-pair : goal.returns-clause-pair
returns-clause-pair c = pair_rests _ _ _ _ c.args.pair.now c.requires.crew c.load.ensures.seat c.load.ensures.looked.view c.requires.pair
