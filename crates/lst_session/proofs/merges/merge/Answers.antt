use Rattle.std.proofs.Common.{arith}
use Rattle.lst_session.proofs.MergeSteps.{freed_settled, has_nothing, lacks_frame, merges}
use Rattle.lst_session.proofs.merges.merge.Goals as goal

pub returns-then-run-clause-merges : goal.returns-then-run-clause-merges
returns-then-run-clause-merges c = has_nothing _ _ _ _ c.run_end-run.result c.requires.host c.requires.page c.run_end-run.ensures.inspects c.run_end-run.ensures.run c.if-run.true

pub build-requires-clause-settled : goal.build-requires-clause-settled
build-requires-clause-settled c = freed_settled _ _ _ _ c.run_end-run.result c.requires.host c.requires.page c.run_end-run.ensures.inspects c.run_end-run.ensures.run _ _ c.in-Ok.ensures.ok

pub swap-requires-clause-ready : goal.swap-requires-clause-ready
swap-requires-clause-ready c = let from = c.run_end-run.ensures.run.from in let some = c.if-run.false in c.build.ensures.ready (omega arith)

pub returns-in-Err-clause-merges : goal.returns-in-Err-clause-merges
returns-in-Err-clause-merges c = let from = c.run_end-run.ensures.run.from in let some = c.if-run.false in
    lacks_frame _ _ _ _ c.run_end-run.result c.requires.host c.requires.page c.run_end-run.ensures.inspects c.run_end-run.ensures.run _ _ c.in-Err.ensures.held (omega arith)

pub returns-in-Ok-clause-merges : goal.returns-in-Ok-clause-merges
returns-in-Ok-clause-merges c = let from = c.run_end-run.ensures.run.from in let some = c.if-run.false in
    merges _ _ _ _ c.run_end-run.result c.requires.host c.requires.page c.run_end-run.ensures.inspects c.run_end-run.ensures.run _ _ c.in-Ok.ensures.ok _ c.build.ensures.builds _ c.consider.ensures c.swap.ensures.swaps (omega arith)
