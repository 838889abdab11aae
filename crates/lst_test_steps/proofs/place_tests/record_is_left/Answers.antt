use Rattle.std.proofs.Common.{refl, arith}
use Rattle.lst_index.proofs.Pairing.{pair_first}
use Rattle.lst_test_steps.proofs.place_tests.record_is_left.Goals as goal

pub look_at_counter-requires-clause-host : goal.look_at_counter-requires-clause-host
look_at_counter-requires-clause-host c = c.requires.pair.hosted _ (omega arith)

pub returns-in-Ok-clause-pair : goal.returns-in-Ok-clause-pair
returns-in-Ok-clause-pair c = pair_first _ _ _ _ _ c.requires.pair c.look_at_counter.ensures.seat c.look_at_counter.ensures.works refl

pub returns-in-Err-clause-pair : goal.returns-in-Err-clause-pair
returns-in-Err-clause-pair c = pair_first _ _ _ _ _ c.requires.pair c.look_at_counter.ensures.seat c.look_at_counter.ensures.works refl
