use Rattle.std.proofs.Common.{refl, arith}
use Rattle.lst_index.proofs.Pairing.{pair_own, pair_first, passed_none}
use Rattle.lst_test_steps.proofs.place_tests.arrive.Goals as goal

pub settle-requires-clause-own : goal.settle-requires-clause-own
settle-requires-clause-own c = pair_own _ _ _ c.requires.pair (omega arith)

pub settle-requires-clause-host : goal.settle-requires-clause-host
settle-requires-clause-host c = c.requires.pair.hosted _ (omega arith)

pub settle-requires-clause-offset : goal.settle-requires-clause-offset
settle-requires-clause-offset c = let h = c.requires.at.1 in omega arith

pub settle-requires-clause-passed : goal.settle-requires-clause-passed
settle-requires-clause-passed c = passed_none _ _ _

pub returns-in-Some-clause-pair : goal.returns-in-Some-clause-pair
returns-in-Some-clause-pair c = pair_first _ _ _ _ _ c.requires.pair c.settle.ensures.seat c.settle.ensures.works refl

pub returns-in-None-clause-pair : goal.returns-in-None-clause-pair
returns-in-None-clause-pair c = pair_first _ _ _ _ _ c.requires.pair c.settle.ensures.seat c.settle.ensures.works refl
