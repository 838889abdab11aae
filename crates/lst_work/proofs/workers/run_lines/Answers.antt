use Rattle.std.proofs.Common.{sym, subst}
use Rattle.lst_walk.proofs.Lists.{take_whole}
use Rattle.lst_model.specs.declared.lines.Line.{Line}
use Rattle.lst_work_laws.specs.Runs.{CanRun}
use Rattle.lst_work.proofs.Running.{running_first, running_on, ran_whole}
use Rattle.lst_work.proofs.workers.run_lines.Goals as goal

pub loop-i-init : goal.loop-i-init
loop-i-init g c = running_first c.args.store.now c.args.lines.now c.args.worker.now c.requires.ready

pub run_line-requires-clause-can : goal.run_line-requires-clause-can
run_line-requires-clause-can g c = let line = c.index-lines-i.result in
    subst (λ (x : Line). CanRun c.args.store.now.layout.limits x) (sym c.index-lines-i.is) (c.requires.can c.loop-i.i line c.loop-i-test.true)

pub loop-i-preserved : goal.loop-i-preserved
loop-i-preserved g c = let e = c.in_ok-run_line.ensures in
    running_on c.args.store.now c.args.lines.now c.args.worker.now c.loop-i.worker c.run_line.new.worker c.loop-i.i c.index-lines-i.result c.loop-i.invariant c.loop-i-test.true c.index-lines-i.is e.ready e.number e.ran

pub returns-clause-ran : goal.returns-clause-ran
returns-clause-ran g c = ran_whole _ c.args.lines.now c.args.worker.now c.loop-i.worker (take_whole c.args.lines.now c.loop-i.i c.loop-i-test.false) c.loop-i.invariant.ran
