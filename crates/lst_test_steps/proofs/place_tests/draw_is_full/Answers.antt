use Rattle.std.proofs.Common.{refl, arith}
use Rattle.lst_index.proofs.Pairing.{pair_own, pair_first, keyless}
use Rattle.lst_test_steps.proofs.place_tests.draw_is_full.Goals as goal

pub draw-requires-clause-own : goal.draw-requires-clause-own
draw-requires-clause-own c = pair_own _ _ _ c.requires.pair (omega arith)

pub draw-requires-clause-host : goal.draw-requires-clause-host
draw-requires-clause-host c = c.requires.pair.hosted _ (omega arith)

pub draw-requires-clause-keyless : goal.draw-requires-clause-keyless
draw-requires-clause-keyless c = keyless _ _ _ c.requires.pair (omega arith) c.consider.ensures c.requires.idle

pub returns-in-Ok-clause-pair : goal.returns-in-Ok-clause-pair
returns-in-Ok-clause-pair c = pair_first _ _ _ _ _ c.requires.pair c.draw.ensures.seat c.draw.ensures.works refl

pub returns-in-Err-clause-pair : goal.returns-in-Err-clause-pair
returns-in-Err-clause-pair c = pair_first _ _ _ _ _ c.requires.pair c.draw.ensures.seat c.draw.ensures.works refl
