use Rattle.std.proofs.Common.{ap, length, ◌∙◌, arith}
use Rattle.lst_rule.specs.Joins.{hears_numbers}
use Rattle.lst_rule.proofs.Changing.{mapped_step, mapped_all, length-mapped}
use Rattle.lst_rule.proofs.joins.lengthen.Goals as goal

pub loop-s-preserved : goal.loop-s-preserved
loop-s-preserved c = mapped_step (hears_numbers c.args.time) c.loop-s.s c.args.numbers.now.items c.loop-s.numbers.items c.index.result.now c.lengthened.result c.loop-s.invariant
    (let a = c.loop-s-test.true in let e = c.loop-s.numbers.ok.0 in omega arith) (c.lengthened.ensures ∙ ap (hears_numbers c.args.time) c.index.ensures)

pub returns : goal.returns
returns c = c.loop-s.invariant ∙ mapped_all (hears_numbers c.args.time) c.loop-s.s c.args.numbers.now.items
    (let a = c.loop-s-test.false in let e = c.loop-s.numbers.ok.0 in let b = ap length c.loop-s.invariant ∙ length-mapped (hears_numbers c.args.time) c.loop-s.s c.args.numbers.now.items in omega arith)
