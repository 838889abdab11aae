use Rattle.lst_command.proofs.Loads.{load_reads_nothing}
use Rattle.lst_command.proofs.laws.a_load_reads_nothing.Goals as goal

pub returns : goal.returns
returns c = load_reads_nothing
