use Rattle.std.proofs.Common.{arith}
use Rattle.lst_session.proofs.MergeSteps.{freed_settled, lacks_frame, merges}
use Rattle.lst_test_calls.proofs.ByHand.{crew_learned, spares_looked}
use Rattle.lst_test_calls.proofs.merge_tests.merged_by_hand.Goals as goal

pub returns-then-run : goal.returns-then-run
returns-then-run c = let e = c.run_end-run.ensures in record { crew = crew_learned c.args.store.now c.args.crew.now (record { seat = c.run_end-run.new.seat; spares = c.args.crew.now.spares }) _ c.requires.crew e.seat e.inspects.view (spares_looked _ _ _ e.inspects c.requires.crew.spares) }

pub build-requires-clause-settled : goal.build-requires-clause-settled
build-requires-clause-settled c = freed_settled _ _ _ _ c.run_end-run.result c.requires.crew.merger c.requires.page c.run_end-run.ensures.inspects c.run_end-run.ensures.run _ _ c.in-Ok.ensures.ok

pub swap-requires-clause-ready : goal.swap-requires-clause-ready
swap-requires-clause-ready c = let from = c.run_end-run.ensures.run.from in let some = c.if-run.false in c.build.ensures.ready (omega arith)

pub returns-in-Err : goal.returns-in-Err
returns-in-Err c = let from = c.run_end-run.ensures.run.from in let some = c.if-run.false in
    let m = lacks_frame _ _ _ _ c.run_end-run.result c.requires.crew.merger c.requires.page c.run_end-run.ensures.inspects c.run_end-run.ensures.run _ _ c.in-Err.ensures.held (omega arith) in
    record { crew = crew_learned c.args.store.now c.args.crew.now (record { seat = c.free_frame.new.seat; spares = c.free_frame.new.spares }) _ c.requires.crew c.in-Err.ensures.seat m.learns.view c.in-Err.ensures.still }

pub returns-in-Ok : goal.returns-in-Ok
returns-in-Ok c = let from = c.run_end-run.ensures.run.from in let some = c.if-run.false in
    let m = merges _ _ _ _ c.run_end-run.result c.requires.crew.merger c.requires.page c.run_end-run.ensures.inspects c.run_end-run.ensures.run _ _ c.in-Ok.ensures.ok _ c.build.ensures.builds _ c.consider.ensures c.swap.ensures.swaps (omega arith) in
    record { crew = crew_learned c.args.store.now c.args.crew.now (record { seat = c.swap.new.seat; spares = c.swap.new.spares }) _ c.requires.crew c.swap.ensures.seat m.learns.view c.swap.ensures.spares }
