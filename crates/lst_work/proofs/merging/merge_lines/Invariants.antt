use Rattle.lst_work.specs.Merges.{IsMerging}
use Rattle.lst_work.proofs.merging.merge_lines.Given as goal

abbrev pub invariant-loop-i : goal.invariant-loop-i
invariant-loop-i g l = IsMerging l.store l.lines l.fn.merger l.merger l.fn.queue l.queue l.i
