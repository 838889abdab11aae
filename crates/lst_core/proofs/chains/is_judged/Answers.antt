use Rattle.std.proofs.Common.{◌<◌, ℕ, subst, sym, refl}
use Rattle.lst_layout.specs.Words.{shown}
use Rattle.lst_core.proofs.Walking.{judges_start, walk_tail, walk_stored, walk_falls, judged_here, judged_closed, judged_end}
use Rattle.lst_core.proofs.chains.is_judged.Goals as goal

pub loop-tail-init : goal.loop-tail-init
loop-tail-init c = judges_start c.args.layout.now.limits c.args.words.now c.requires.read c.args.own c.args.rec c.newest-tail.result c.requires.rec c.newest-tail.ensures

pub writer-name-requires-clause-tail : goal.writer-name-requires-clause-tail
writer-name-requires-clause-tail c = let l = c.args.layout.now.limits in walk_tail l (shown l c.args.words.now) c.args.rec c.loop-tail.tail c.loop-tail.invariant.walk c.loop-tail-test.true

pub writer-name-requires-clause-stored : goal.writer-name-requires-clause-stored
writer-name-requires-clause-stored c = let l = c.args.layout.now.limits in walk_stored l (shown l c.args.words.now) c.args.rec c.loop-tail.tail c.loop-tail.invariant.walk c.loop-tail-test.true

pub older-tail-requires-clause-tail : goal.older-tail-requires-clause-tail
older-tail-requires-clause-tail c = let l = c.args.layout.now.limits in walk_tail l (shown l c.args.words.now) c.args.rec c.loop-tail.tail c.loop-tail.invariant.walk c.loop-tail-test.true

pub older-tail-requires-clause-falls : goal.older-tail-requires-clause-falls
older-tail-requires-clause-falls c = let l = c.args.layout.now.limits in walk_falls l (shown l c.args.words.now) c.args.rec c.loop-tail.tail c.loop-tail.invariant.walk c.loop-tail-test.true

pub loop-tail-smaller : goal.loop-tail-smaller
loop-tail-smaller c = let l = c.args.layout.now.limits in subst (λ (x : ℕ). x < c.loop-tail.tail) (sym c.older-tail.ensures) (walk_falls l (shown l c.args.words.now) c.args.rec c.loop-tail.tail c.loop-tail.invariant.walk c.loop-tail-test.true)

pub loop-tail-preserved : goal.loop-tail-preserved
loop-tail-preserved c = let l = c.args.layout.now.limits in judged_closed l (shown l c.args.words.now) c.args.own c.args.rec c.loop-tail.tail c.loop-tail.invariant c.writer-name.result c.state_of-state.result c.older-tail.result c.loop-tail-test.true c.writer-name.ensures.writer c.state_of-state.ensures c.if-state-ne1.false c.older-tail.ensures

pub returns : goal.returns
returns c = let l = c.args.layout.now.limits in (λ _. judged_end l (shown l c.args.words.now) c.args.own c.args.rec c.loop-tail.tail c.loop-tail.invariant c.loop-tail-test.false, λ _. refl)

pub returns-then-state-ne1 : goal.returns-then-state-ne1
returns-then-state-ne1 c = let l = c.args.layout.now.limits in let q = judged_here l (shown l c.args.words.now) c.args.own c.args.rec c.loop-tail.tail c.loop-tail.invariant c.writer-name.result c.state_of-state.result c.args.begin c.loop-tail-test.true c.writer-name.ensures.writer c.state_of-state.ensures c.if-state-ne1.true c.requires.begin in
    (λ h. q.0 (c.is_under.ensures.0 h), λ j. c.is_under.ensures.1 (q.1 j))
