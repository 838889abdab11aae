use Rattle.lst_probe.proofs.Runs as proved
use Rattle.lst_probe.proofs.laws.run_positions.Goals as goal

pub returns-clause-inside : goal.returns-clause-inside
returns-clause-inside c = proved.run_position-lt

pub returns-clause-apart : goal.returns-clause-apart
returns-clause-apart c = proved.run_positions_apart

pub returns-clause-covers : goal.returns-clause-covers
returns-clause-covers c = proved.run_covers
