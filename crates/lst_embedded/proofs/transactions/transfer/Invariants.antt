use Rattle.std.specs.Prelude.{[]}
use Rattle.lst_session.specs.Passes.{IsReady}
use Rattle.lst_embedded.specs.Doing.{HasAdded}
use Rattle.lst_embedded.proofs.transactions.transfer.Given as goal

abbrev pub invariant-loop-attempt : goal.invariant-loop-attempt
invariant-loop-attempt l = IsReady l.store l.session × HasAdded l.fn.session l.session []

abbrev pub invariant-loop : goal.invariant-loop
invariant-loop l = IsReady l.store l.session × HasAdded l.fn.session l.session []
