use Rattle.std.proofs.Common.{length}
use Rattle.lst_legal_runs.proofs.Placing.{Traced}
use Rattle.lst_legal_runs.proofs.places.trace_with.Given as goal

abbrev pub invariant-loop-answer : goal.invariant-loop-answer
invariant-loop-answer l = Traced (length l.fn.outlines) l.run l.answer-index l.outlines l.places.items
