use Rattle.std.proofs.Common.{refl, sym, true≢false, ◌∙◌, arith}
use Rattle.lst_core.proofs.ValueRuns.{yes_posted, no_posted, more_posted, posted_none}
use Rattle.lst_core.proofs.postings.is_posted.Goals as goal

pub loop-offset-preserved : goal.loop-offset-preserved
loop-offset-preserved c = more_posted c.args.layout.now.limits c.args.words.now c.args.column c.args.rec c.args.value c.loop-offset.offset c.position.result c.tail_there-tail.result c.position.ensures.position c.tail_there-tail.ensures.tail c.loop-offset.invariant c.if-tail-eq0.false (λ alike. true≢false (sym (c.is_alike.ensures.1 alike) ∙ c.if-is_alike.false))

pub returns-then-tail-eq0 : goal.returns-then-tail-eq0
returns-then-tail-eq0 c = (λ t. absurd (true≢false (sym t)), λ is. absurd (no_posted c.args.layout.now.limits c.args.words.now c.args.column c.args.rec c.args.value c.loop-offset.offset c.position.result c.tail_there-tail.result c.position.ensures.position c.tail_there-tail.ensures.tail c.loop-offset.invariant c.if-tail-eq0.true is))

pub returns-then-is_alike : goal.returns-then-is_alike
returns-then-is_alike c = (λ _. yes_posted c.args.layout.now.limits c.args.words.now c.args.column c.args.rec c.args.value c.loop-offset.offset c.position.result c.tail_there-tail.result c.position.ensures.position c.tail_there-tail.ensures.tail c.loop-offset.invariant (let e = c.posting_positions-size.ensures.count in let f = c.loop-offset-test.true in omega arith) c.if-tail-eq0.false (c.is_alike.ensures.0 c.if-is_alike.true), λ _. refl)

pub returns : goal.returns
returns c = (λ t. absurd (true≢false (sym t)), λ is. absurd (posted_none c.args.layout.now.limits c.args.words.now c.args.column c.args.rec c.args.value c.loop-offset.offset c.loop-offset.invariant (let e = c.posting_positions-size.ensures.count in let f = c.loop-offset-test.false in omega arith) is))
