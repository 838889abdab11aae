use Rattle.lst_test_journal.proofs.driving.tried.Goals as goal

pub returns-in-Ok : goal.returns-in-Ok
returns-in-Ok g c = λ sound. (c.in-Ok.ensures.opened.0, c.in-Ok.ensures.opened.1.journal)
