use Rattle.std.proofs.Common.{arith, sym, ◌∙◌}
use Rattle.lst_work.proofs.Cutting.{within_on}
use Rattle.lst_work.proofs.scripts.phase_end.Goals as goal

pub loop-i-init : goal.loop-i-init
loop-i-init c i d from low = absurd (omega arith)

pub loop-i-preserved : goal.loop-i-preserved
loop-i-preserved c = within_on c.args.lines.now c.args.start c.loop-i.i c.index-lines-i.result c.loop-i.invariant c.loop-i-test.true c.index-lines-i.is (sym c.ends_phase.ensures ∙ c.if-ends_phase.false)
