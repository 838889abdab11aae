use Rattle.lst_bench.proofs.journals.fill.Given as goal

abbrev pub invariant-loop-key : goal.invariant-loop-key
invariant-loop-key g l = g.A.Answers.ready l.answers
