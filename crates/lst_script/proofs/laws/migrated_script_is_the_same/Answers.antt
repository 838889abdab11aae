use Rattle.lst_script.proofs.Migrated.{read_again}
use Rattle.lst_script.proofs.laws.migrated_script_is_the_same.Goals as goal

pub returns : goal.returns
returns c = read_again
