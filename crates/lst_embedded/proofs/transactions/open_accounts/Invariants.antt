use Rattle.lst_embedded.specs.Deeds.{IsOpening}
use Rattle.lst_embedded.specs.Doing.{HasDone}
use Rattle.lst_embedded.proofs.transactions.open_accounts.Given as goal

abbrev pub invariant-loop-key : goal.invariant-loop-key
invariant-loop-key l = HasDone l.store IsOpening l.fn.banker l.banker l.key
