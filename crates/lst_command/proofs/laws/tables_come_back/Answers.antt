use Rattle.lst_command.proofs.TablesAgain.{import_is_script, tables_come_back, dumps_come_back}
use Rattle.lst_command.proofs.laws.tables_come_back.Goals as goal

pub returns-clause-script : goal.returns-clause-script
returns-clause-script c = import_is_script

pub returns-clause-same : goal.returns-clause-same
returns-clause-same c = tables_come_back c.puts_are_committed.ensures

pub returns-clause-dumped : goal.returns-clause-dumped
returns-clause-dumped c = dumps_come_back c.puts_are_committed.ensures c.dumps_are_tables.ensures
