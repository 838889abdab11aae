use Rattle.lst_bench.proofs.journals.opened.Goals as goal

pub returns-in-Ok : goal.returns-in-Ok
returns-in-Ok c = λ sound. (c.in-Ok.ensures.opened.0, c.in-Ok.ensures.opened.1.journal)
