use Rattle.std.proofs.Common.{ℕ, ◌/◌, ◌<◌, length, sym, subst}
use Rattle.lst_machine.specs.Machines.{parts_of}
use Rattle.lst_machine.proofs.Viewing.{range_low}
use Rattle.lst_machine.proofs.machine.Machine.range_of.Goals as goal

pub returns-clause-low : goal.returns-clause-low
returns-clause-low c = subst (λ (n : ℕ). n / 256 < length c.args.self.now.ranges.items) (sym c.unwrap_or.ensures) (range_low c.args.self.now.limits (parts_of c.args.self.now) c.args.self.now.whole c.args.key c.place.result c.place.ensures)
