use Rattle.std.proofs.Common.{arith}
use Rattle.lst_index.proofs.Pairing.{pair_own, pair_idle, still_idle}
use Rattle.lst_test_steps.proofs.place_tests.get.Goals as goal

pub find-requires-clause-own : goal.find-requires-clause-own
find-requires-clause-own c = pair_own _ _ _ c.requires.pair (omega arith)

pub find-requires-clause-host : goal.find-requires-clause-host
find-requires-clause-host c = c.requires.pair.hosted _ (omega arith)

pub returns-in-Some-clause-pair : goal.returns-in-Some-clause-pair
returns-in-Some-clause-pair c = pair_idle _ _ _ _ _ c.requires.pair c.find.ensures.seat c.find.ensures.works (still_idle _ _ _ _ _ c.requires.pair c.find.ensures.seat c.find.ensures.works c.requires.idle c.find.ensures.keeps)

pub returns-in-Some-clause-idle : goal.returns-in-Some-clause-idle
returns-in-Some-clause-idle c = still_idle _ _ _ _ _ c.requires.pair c.find.ensures.seat c.find.ensures.works c.requires.idle c.find.ensures.keeps

pub returns-in-None-clause-pair : goal.returns-in-None-clause-pair
returns-in-None-clause-pair c = pair_idle _ _ _ _ _ c.requires.pair c.find.ensures.seat c.find.ensures.works (still_idle _ _ _ _ _ c.requires.pair c.find.ensures.seat c.find.ensures.works c.requires.idle c.find.ensures.keeps)

pub returns-in-None-clause-idle : goal.returns-in-None-clause-idle
returns-in-None-clause-idle c = still_idle _ _ _ _ _ c.requires.pair c.find.ensures.seat c.find.ensures.works c.requires.idle c.find.ensures.keeps
