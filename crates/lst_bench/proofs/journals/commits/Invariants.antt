use Rattle.lst_bench.proofs.journals.commits.Given as goal

abbrev pub invariant-loop-turn : goal.invariant-loop-turn
invariant-loop-turn g l = g.A.Answers.ready l.answers
