use Rattle.std.proofs.Common.{refl, sym, true≢false, arith}
use Rattle.lst_core.proofs.ValueRuns.{reached, stopped, ended, comes_on}
use Rattle.lst_core.proofs.postings.reaches.Goals as goal

pub loop-offset-preserved : goal.loop-offset-preserved
loop-offset-preserved c = comes_on c.args.layout.now.limits c.args.words.now c.args.column c.args.value c.args.goal c.loop-offset.offset c.position-position.result c.posting.result c.position-position.ensures.position c.loop-offset.invariant c.if-position-goal.false c.posting.ensures c.if-posting-eq0.false

pub returns-then-position-goal : goal.returns-then-position-goal
returns-then-position-goal c = (λ _. reached c.args.layout.now.limits c.args.words.now c.args.column c.args.value c.args.goal c.loop-offset.offset c.position-position.result c.position-position.ensures.position c.loop-offset.invariant (let e = c.posting_positions-size.ensures.count in let f = c.loop-offset-test.true in omega arith) c.if-position-goal.true, λ _. refl)

pub returns-then-posting-eq0 : goal.returns-then-posting-eq0
returns-then-posting-eq0 c = (λ t. absurd (true≢false (sym t)), λ is. absurd (stopped c.args.layout.now.limits c.args.words.now c.args.column c.args.value c.args.goal c.loop-offset.offset c.position-position.result c.posting.result c.position-position.ensures.position c.loop-offset.invariant c.if-position-goal.false c.posting.ensures c.if-posting-eq0.true is))

pub returns : goal.returns
returns c = (λ t. absurd (true≢false (sym t)), λ is. absurd (ended c.args.layout.now.limits c.args.words.now c.args.column c.args.value c.args.goal c.loop-offset.offset c.loop-offset.invariant (let e = c.posting_positions-size.ensures.count in let f = c.loop-offset-test.false in omega arith) is))
