use Rattle.lst_core_pages.specs.Cells.{Cells}
use Rattle.lst_core_pages.proofs.Settlings.{pushed_core, pushed_state}
use Rattle.lst_core_pages.proofs.page_core.PageCore.settle.Goals as goal

pub invariant_of-self : goal.invariant_of-self
invariant_of-self c = let m : Cells = record { limits = c.self.inside.layout.limits; row = c.self.inside.words.items; hands = c.self.inside.hands.items; tails = c.self.inside.tails.items; queue = c.self.inside.queue } in pushed_core m c.args.self.now c.self.view_is c.self.invariant c.args.range c.args.tail c.requires c.index_mut.result.now c.push.new.self c.index_mut.ensures.value c.push.result c.push.ensures.ok c.push.ensures.err

pub returns-clause-ok : goal.returns-clause-ok
returns-clause-ok c = let m : Cells = record { limits = c.self.inside.layout.limits; row = c.self.inside.words.items; hands = c.self.inside.hands.items; tails = c.self.inside.tails.items; queue = c.self.inside.queue } in pushed_state m c.args.self.now c.self.view_is c.self.invariant c.args.range c.args.tail c.requires c.index_mut.result.now c.push.new.self c.index_mut.ensures.value c.push.result c.push.ensures.ok c.push.ensures.err

pub returns-clause-sound : goal.returns-clause-sound
returns-clause-sound c = let m : Cells = record { limits = c.self.inside.layout.limits; row = c.self.inside.words.items; hands = c.self.inside.hands.items; tails = c.self.inside.tails.items; queue = c.self.inside.queue } in (pushed_core m c.args.self.now c.self.view_is c.self.invariant c.args.range c.args.tail c.requires c.index_mut.result.now c.push.new.self c.index_mut.ensures.value c.push.result c.push.ensures.ok c.push.ensures.err).sound
