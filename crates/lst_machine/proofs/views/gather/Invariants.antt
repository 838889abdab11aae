use Rattle.std.proofs.Common.{◌≡◌, drop}
use Rattle.lst_machine.specs.Writes.{gathered}
use Rattle.lst_machine.proofs.views.gather.Given as goal

abbrev pub invariant-loop-write : goal.invariant-loop-write
invariant-loop-write l = gathered l.author.session l.author.number l.own.items (drop l.write-index l.accepted) ≡ gathered l.author.session l.author.number l.fn.own.items l.accepted
