use Rattle.lst_csv.proofs.ScriptAgain.{any_script_read}
use Rattle.lst_csv.proofs.laws.script_of_any_table_is_read.Goals as goal

pub returns : goal.returns
returns c = any_script_read
