use Rattle.lst_test_calls.proofs.ByHand.{crew_learned, spares_looked}
use Rattle.lst_test_calls.proofs.merge_tests.run_by_hand.Goals as goal

pub returns : goal.returns
returns c = let e = c.run_end.ensures in record { crew = crew_learned c.args.store.now c.args.crew.now (record { seat = c.run_end.new.seat; spares = c.args.crew.now.spares }) _ c.requires.crew e.seat e.inspects.view (spares_looked _ _ _ e.inspects c.requires.crew.spares) }
