use Rattle.std.proofs.Common.{◌≡◌, take}
use Rattle.std.specs.Prelude.{option_map, not, ◌&&◌, ◌==◌}
use Rattle.lst_machine.specs.State.{Accepted}
use Rattle.lst_machine.specs.Writes.{last_where, range_of}
use Rattle.lst_machine.specs.Parts.{author_of, range_in}
use Rattle.lst_machine.specs.Machines.{store_of}
use Rattle.lst_machine.proofs.machine.Machine.rival.Given as goal

abbrev pub invariant-loop-write : goal.invariant-loop-write
invariant-loop-write l = l.rival ≡ option_map author_of
    (last_where (λ (other : Accepted). other.write.key == l.key && not ((store_of l.self).closed other.session other.number))
    (take l.write-index (range_in l.self.ranges.items (range_of l.self.placed.items l.key))))
