use Rattle.std.proofs.Common.{refl, sym, true≢false, arith}
use Rattle.lst_core.proofs.Probing.{yes_placed, no_placed, more_placed, placed_none}
use Rattle.lst_core.proofs.probes.is_placed.Goals as goal

pub loop-offset-preserved : goal.loop-offset-preserved
loop-offset-preserved c = more_placed c.args.layout.now.limits c.args.words.now c.requires.read c.key-key.result c.loop-offset.offset c.position.result c.index-word.result c.position.ensures.position c.index-word.ensures c.args.rec c.key-key.ensures c.loop-offset.invariant c.if-word-rec.false c.if-word-eq0.false

pub returns-then-word-rec : goal.returns-then-word-rec
returns-then-word-rec c = (λ _. yes_placed c.args.layout.now.limits c.args.words.now c.requires.read c.key-key.result c.loop-offset.offset c.position.result c.index-word.result c.position.ensures.position c.index-word.ensures c.args.rec c.key-key.ensures c.if-word-rec.true, λ _. refl)

pub returns-then-word-eq0 : goal.returns-then-word-eq0
returns-then-word-eq0 c = (λ t. absurd (true≢false (sym t)), λ is. absurd (no_placed c.args.layout.now.limits c.args.words.now c.requires.read c.key-key.result c.loop-offset.offset c.position.result c.index-word.result c.position.ensures.position c.index-word.ensures c.args.rec c.key-key.ensures c.loop-offset.invariant c.if-word-eq0.true is))

pub returns : goal.returns
returns c = (λ t. absurd (true≢false (sym t)), λ is. absurd (placed_none c.args.layout.now.limits c.args.words.now c.requires.read c.args.rec c.key-key.result c.key-key.ensures c.loop-offset.offset c.loop-offset.invariant (let e = c.index_positions-size.ensures.count in let f = c.loop-offset-test.false in omega arith) is))
