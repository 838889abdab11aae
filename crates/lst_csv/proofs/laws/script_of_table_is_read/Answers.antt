use Rattle.lst_csv.proofs.ScriptAgain.{script_read}
use Rattle.lst_csv.proofs.laws.script_of_table_is_read.Goals as goal

pub returns : goal.returns
returns c = script_read
