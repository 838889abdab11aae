use Rattle.lst_embedded.specs.Deeds.{IsMove}
use Rattle.lst_embedded.specs.Doing.{HasDone}
use Rattle.lst_embedded.proofs.transactions.work.Given as goal

abbrev pub invariant-loop-made : goal.invariant-loop-made
invariant-loop-made l = HasDone l.store IsMove l.fn.teller l.teller l.made
