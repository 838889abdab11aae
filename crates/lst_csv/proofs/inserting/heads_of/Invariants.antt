use Rattle.std.proofs.Common.{◌≡◌, map, take}
use Rattle.lst_csv.specs.Importing.{head_of}
use Rattle.lst_csv.proofs.inserting.heads_of.Given as goal

abbrev pub invariant-loop-name : goal.invariant-loop-name
invariant-loop-name l = l.heads ≡ map head_of (take l.name-index l.names)
