use Rattle.std.proofs.Common.{◌≡◌}
use Rattle.std.specs.Prelude.{None}
use Rattle.lst_machine.specs.Merges.{holds_frame, lowest_where}
use Rattle.lst_machine.specs.Machines.{store_of, pages_of}
use Rattle.lst_machine.proofs.machine.Machine.holder.Given as goal

abbrev pub invariant-loop-session : goal.invariant-loop-session
invariant-loop-session l = lowest_where (holds_frame l.self.limits (store_of l.self) (pages_of l.self)) l.session ≡ None
