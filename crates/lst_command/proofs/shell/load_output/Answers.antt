use Rattle.lst_command.proofs.Leaving.{load_told}
use Rattle.lst_command.proofs.shell.load_output.Goals as goal

pub returns-in-Ok-clause-output : goal.returns-in-Ok-clause-output
returns-in-Ok-clause-output g c = load_told c.args.numbers.now c.in-Ok.loaded (c.in-Ok.store, c.in-Ok.crew) c.loaded_output.result c.in-Ok.ensures c.loaded_output.ensures.output
