use Rattle.std.proofs.Common.{false, ◌≡◌}
use Rattle.lst_probe.proofs.Runs as proved
use Rattle.lst_probe.proofs.laws.reachable_positions.Goals as goal

pub returns-clause-absent : goal.returns-clause-absent
returns-clause-absent c = λ word same n from k low. proved.absent_from_run word (λ w. same w ≡ false) n from low k

pub returns-clause-stays : goal.returns-clause-stays
returns-clause-stays c = proved.reachable_stays
