use Rattle.std.proofs.Common.{refl, sym, true≢false, ◌∙◌, arith}
use Rattle.lst_core.proofs.Probing.{reached, ended}
use Rattle.lst_core.proofs.probes.reaches.Goals as goal

pub returns-then-position-goal : goal.returns-then-position-goal
returns-then-position-goal c = (λ _. reached c.args.layout.now.limits c.args.words.now c.requires.read c.args.sought c.args.goal c.loop-offset.offset c.loop-offset.invariant (let e = c.index_positions-size.ensures.count in let f = c.loop-offset-test.true in omega arith) (sym c.position-position.ensures.position ∙ c.if-position-goal.true), λ _. refl)

pub returns : goal.returns
returns c = (λ t. absurd (true≢false (sym t)), λ is. absurd (ended c.args.layout.now.limits c.args.words.now c.requires.read c.args.sought c.args.goal c.loop-offset.offset c.loop-offset.invariant (let e = c.index_positions-size.ensures.count in let f = c.loop-offset-test.false in omega arith) is))
