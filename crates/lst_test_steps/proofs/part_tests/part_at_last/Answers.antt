use Rattle.std.proofs.Common.{sym, subst}
use Rattle.lst_rule.specs.Seats.{Sitting}
use Rattle.lst_rule.specs.Surveys.{HostsAll}
use Rattle.lst_seat.proofs.Parting.{parts_of}
use Rattle.lst_test_steps.proofs.part_tests.part_at_last.Goals as goal

pub part-requires-2-clause-all : goal.part-requires-2-clause-all
part-requires-2-clause-all c = subst (λ (seat : Sitting). HostsAll seat.view) (sym c.in-Err.ensures.refused) c.requires.all

pub returns-in-Ok-part-clause-seats : goal.returns-in-Ok-part-clause-seats
returns-in-Ok-part-clause-seats c = parts_of c.args.store.now c.in-Err.again.view c.in-Ok-part.parted.0 c.in-Ok-part.parted.1 c.in-Ok-part.ensures.parts
