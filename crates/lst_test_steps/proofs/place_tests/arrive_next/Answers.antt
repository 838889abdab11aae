use Rattle.lst_index.proofs.Pairing.{two_positions}
use Rattle.lst_test_steps.proofs.place_tests.arrive_next.Goals as goal

pub visit-requires-clause-offset : goal.visit-requires-clause-offset
visit-requires-clause-offset c = two_positions c.args.store.now.layout.limits c.args.store.now.layout.valid
