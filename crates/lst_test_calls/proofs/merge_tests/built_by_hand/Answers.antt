use Rattle.lst_session.proofs.MergeSteps.{freed_settled}
use Rattle.lst_test_calls.proofs.merge_tests.built_by_hand.Goals as goal

pub build-requires-clause-settled : goal.build-requires-clause-settled
build-requires-clause-settled c = freed_settled _ _ _ _ c.run_end-run.result c.requires.crew.merger c.requires.page c.run_end-run.ensures.inspects c.run_end-run.ensures.run _ _ c.in-Ok.ensures.ok
