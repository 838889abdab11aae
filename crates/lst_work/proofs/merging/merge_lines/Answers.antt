use Rattle.std.proofs.Common.{sym, subst}
use Rattle.lst_model.specs.declared.lines.Line.{Line}
use Rattle.lst_work_laws.specs.Runs.{CanRun}
use Rattle.lst_work.proofs.Merges.{merging_first, merging_then, merging_all}
use Rattle.lst_work.proofs.merging.merge_lines.Goals as goal

pub loop-i-init : goal.loop-i-init
loop-i-init g c = merging_first c.args.store.now c.args.lines.now c.args.merger.now c.args.queue.now c.requires.merger

pub merge_line-requires-clause-can : goal.merge_line-requires-clause-can
merge_line-requires-clause-can g c = let line = c.index-lines-i.result in
    subst (λ (x : Line). CanRun c.args.store.now.layout.limits x) (sym c.index-lines-i.is) (c.requires.can c.loop-i.i line c.loop-i-test.true)

pub loop-i-preserved : goal.loop-i-preserved
loop-i-preserved g c = let e = c.in_ok-merge_line.ensures in
    merging_then c.args.store.now c.args.lines.now c.args.merger.now c.loop-i.merger c.merge_line.new.merger c.args.queue.now c.loop-i.queue c.merge_line.new.queue c.loop-i.i c.index-lines-i.result c.loop-i.invariant c.loop-i-test.true c.index-lines-i.is e.merger e.merged

pub returns-clause-merged : goal.returns-clause-merged
returns-clause-merged g c = merging_all c.args.store.now c.args.lines.now c.args.merger.now c.loop-i.merger c.args.queue.now c.loop-i.queue c.loop-i.i c.loop-i.invariant c.loop-i-test.false
