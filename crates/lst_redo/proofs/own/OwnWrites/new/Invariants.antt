use Rattle.std.proofs.Common.{◌≡◌, List, [], replicate}
use Rattle.lst_model.specs.declared.acts.Write.{Write}
use Rattle.lst_redo.proofs.own.OwnWrites.new.Given as goal

abbrev pub invariant-loop : goal.invariant-loop
invariant-loop l = ◌≡◌ {A = List (List Write)} l.lists.items (replicate l.counter [])
