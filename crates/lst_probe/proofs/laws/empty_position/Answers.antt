use Rattle.lst_probe.proofs.Empty as proved
use Rattle.lst_probe.proofs.laws.empty_position.Goals as goal

pub returns-clause-counted : goal.returns-clause-counted
returns-clause-counted c = proved.fewer_leave_empty

pub returns-clause-entries : goal.returns-clause-entries
returns-clause-entries c = proved.entries_leave_empty

pub returns-clause-run : goal.returns-clause-run
returns-clause-run c = proved.runs_end
