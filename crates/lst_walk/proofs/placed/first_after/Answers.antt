use Rattle.std.proofs.Common.{◌*◌, ap, ◌∙◌, arith}
use Rattle.lst_layout.specs.declared.layout.Layout.{Layout}
use Rattle.lst_walk.proofs.Firsts as firsts
use Rattle.lst_walk.proofs.placed.first_after.Goals as goal

pub later-requires : goal.later-requires
later-requires c = let low = firsts.first_low c.args.store.now.layout.limits c.args.range c.args.number c.args.start c.args.words c.requires.range c.requires.number.0 c.requires.number.1 c.requires.start c.requires.words in let all = c.args.store.now.layout.counted in let here = ap (λ (y : Layout). y.words) c.layout.ensures in omega arith

pub returns : goal.returns
returns c = c.later.ensures ∙ firsts.first_after c.args.store.now.layout.limits (c.args.range * c.args.store.now.layout.limits.tails) c.args.number c.args.start c.args.words c.requires.number.0 c.requires.start c.requires.words
