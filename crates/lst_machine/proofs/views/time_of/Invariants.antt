use Rattle.std.proofs.Common.{◌≡◌, take}
use Rattle.std.specs.Prelude.{None}
use Rattle.lst_machine.specs.Writes.{time_of}
use Rattle.lst_machine.proofs.views.time_of.Given as goal

abbrev pub invariant-loop-place : goal.invariant-loop-place
invariant-loop-place l = time_of (take l.place l.history) l.author.session l.author.number ≡ None
