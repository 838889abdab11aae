use Rattle.std.proofs.Common.{◌≡◌, ◌++◌, take, drop}
use Rattle.lst_model.specs.declared.acts.Write.{Write}
use Rattle.lst_model.specs.Histories.{joined}
use Rattle.lst_machine.proofs.views.place_behind.Given as goal

abbrev pub invariant-loop-place : goal.invariant-loop-place
invariant-loop-place l = (new : Write) → new.key ≡ l.key → joined l.writes new ≡ take l.place l.writes ++ joined (drop l.place l.writes) new
