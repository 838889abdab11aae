use Rattle.std.proofs.Common.{◌<◌, ℕ, subst, sym, arith, true≢false}
use Rattle.lst_layout.specs.Words.{shown}
use Rattle.lst_core.proofs.Walking.{rows_start, walk_tail, walk_stored, walk_falls, row_here, rows_closed, rows_none, kind_true}
use Rattle.lst_core.proofs.chains.has_row.Goals as goal

pub loop-tail-init : goal.loop-tail-init
loop-tail-init c = rows_start c.args.layout.now.limits c.args.words.now c.requires.read c.args.rec c.newest-tail.result c.requires.rec c.newest-tail.ensures

pub writer-requires-clause-tail : goal.writer-requires-clause-tail
writer-requires-clause-tail c = let l = c.args.layout.now.limits in walk_tail l (shown l c.args.words.now) c.args.rec c.loop-tail.tail c.loop-tail.invariant.walk c.loop-tail-test.true

pub writer-requires-clause-stored : goal.writer-requires-clause-stored
writer-requires-clause-stored c = let l = c.args.layout.now.limits in walk_stored l (shown l c.args.words.now) c.args.rec c.loop-tail.tail c.loop-tail.invariant.walk c.loop-tail-test.true

pub cell-requires-clause-place : goal.cell-requires-clause-place
cell-requires-clause-place c = let l = c.args.layout.now.limits in let h = walk_tail l (shown l c.args.words.now) c.args.rec c.loop-tail.tail c.loop-tail.invariant.walk c.loop-tail-test.true in (h.0, h.1, omega arith)

pub older-tail-requires-clause-tail : goal.older-tail-requires-clause-tail
older-tail-requires-clause-tail c = let l = c.args.layout.now.limits in walk_tail l (shown l c.args.words.now) c.args.rec c.loop-tail.tail c.loop-tail.invariant.walk c.loop-tail-test.true

pub older-tail-requires-clause-falls : goal.older-tail-requires-clause-falls
older-tail-requires-clause-falls c = let l = c.args.layout.now.limits in walk_falls l (shown l c.args.words.now) c.args.rec c.loop-tail.tail c.loop-tail.invariant.walk c.loop-tail-test.true

pub loop-tail-smaller : goal.loop-tail-smaller
loop-tail-smaller c = let l = c.args.layout.now.limits in subst (λ (x : ℕ). x < c.loop-tail.tail) (sym c.older-tail.ensures) (walk_falls l (shown l c.args.words.now) c.args.rec c.loop-tail.tail c.loop-tail.invariant.walk c.loop-tail-test.true)

pub loop-tail-preserved : goal.loop-tail-preserved
loop-tail-preserved c = let l = c.args.layout.now.limits in rows_closed l (shown l c.args.words.now) c.args.rec c.loop-tail.tail c.loop-tail.invariant c.writer.result c.state_of-state.result c.older-tail.result c.loop-tail-test.true c.writer.ensures.writer c.state_of-state.ensures c.if-state-ne1.false c.older-tail.ensures

pub returns : goal.returns
returns c = let l = c.args.layout.now.limits in (λ t. absurd (true≢false (sym t)), λ present. absurd (rows_none l (shown l c.args.words.now) c.args.rec c.loop-tail.tail c.loop-tail.invariant c.loop-tail-test.false present))

pub returns-then-state-ne1 : goal.returns-then-state-ne1
returns-then-state-ne1 c = let l = c.args.layout.now.limits in let q = row_here l c.args.words.now c.requires.read c.args.rec c.loop-tail.tail c.loop-tail.invariant c.writer.result c.state_of-state.result c.cell.result c.loop-tail-test.true c.writer.ensures.writer c.state_of-state.ensures c.if-state-ne1.true c.cell.ensures in
    let k = kind_true c.cell.result in (λ h. q.0 (k.0 h), λ present. k.1 (q.1 present))
