use Rattle.std.proofs.Common.{sym, subst, arith, inl}
use Rattle.lst_core_state.specs.declared.known.Placing.{Placing}
use Rattle.lst_index.specs.Visits.{Holds}
use Rattle.lst_index.proofs.Pairing.{some_size, keyless}
use Rattle.lst_test_steps.proofs.place_tests.set_out.Goals as goal

pub position-at-requires : goal.position-at-requires
position-at-requires c = some_size c.layout.result.now.limits c.layout.result.now.valid

pub take_record-requires-clause-holds : goal.take_record-requires-clause-holds
take_record-requires-clause-holds c = subst (λ (p : Placing). Holds p c.args.key) (sym c.look.ensures.placing) (inl (c.requires.idle, keyless _ _ _ c.requires.pair (omega arith) c.consider.ensures c.requires.idle))
