use Rattle.std.proofs.Common.{refl, sym, true≢false, ◌∙◌, arith}
use Rattle.lst_layout.specs.Words.{shown}
use Rattle.lst_core.proofs.ValueRuns.{settled_more}
use Rattle.lst_core.proofs.postings.are_posted.Goals as goal

pub loop-column-preserved : goal.loop-column-preserved
loop-column-preserved c = settled_more c.args.layout.now.limits (shown c.args.layout.now.limits c.args.words.now) c.args.rec c.args.tail c.loop-column.column c.loop-column.invariant (c.is_settled.ensures.0 c.if-not-is_settled.false)

pub returns-then-not-is_settled : goal.returns-then-not-is_settled
returns-then-not-is_settled c = (λ t. absurd (true≢false (sym t)), λ posted. absurd (true≢false (sym (c.is_settled.ensures.1 (posted c.loop-column.column c.loop-column-test.true)) ∙ c.if-not-is_settled.true)))

pub returns : goal.returns
returns c = (λ _ column low. c.loop-column.invariant column (let end = c.loop-column-test.false in omega arith), λ _. refl)
