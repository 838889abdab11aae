use Rattle.std.proofs.Common.{arith}
use Rattle.lst_index.proofs.Pairing.{pair_own, pair_idle}
use Rattle.lst_test_steps.proofs.place_tests.overtake.Goals as goal

pub place-requires-clause-own : goal.place-requires-clause-own
place-requires-clause-own c = pair_own _ _ _ c.requires.pair (omega arith)

pub place-requires-clause-host : goal.place-requires-clause-host
place-requires-clause-host c = c.requires.pair.hosted _ (omega arith)

pub place-requires-clause-free : goal.place-requires-clause-free
place-requires-clause-free c = c.requires.pair.second

pub returns-in-Ok-clause-pair : goal.returns-in-Ok-clause-pair
returns-in-Ok-clause-pair c = pair_idle _ _ _ _ _ c.requires.pair c.place.ensures.seat c.place.ensures.works c.place.ensures.free

pub returns-in-Ok-clause-first : goal.returns-in-Ok-clause-first
returns-in-Ok-clause-first c = c.place.ensures.works.view.others 0 (λ f. omega arith)

pub returns-in-Err-clause-pair : goal.returns-in-Err-clause-pair
returns-in-Err-clause-pair c = pair_idle _ _ _ _ _ c.requires.pair c.place.ensures.seat c.place.ensures.works c.place.ensures.free

pub returns-in-Err-clause-first : goal.returns-in-Err-clause-first
returns-in-Err-clause-first c = c.place.ensures.works.view.others 0 (λ f. omega arith)
