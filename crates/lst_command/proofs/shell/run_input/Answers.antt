use Rattle.lst_command.proofs.LinesFit.{script_taken}
use Rattle.lst_command.proofs.Leaving.{run_output}
use Rattle.lst_command.proofs.shell.run_input.Goals as goal

pub execute-requires-clause-taken : goal.execute-requires-clause-taken
execute-requires-clause-taken c = script_taken c.args.limits.now c.as_bytes.result.now c.in-Ok.script c.in-Ok.ensures.ok

pub returns-in-Ok-execute-clause-output : goal.returns-in-Ok-execute-clause-output
returns-in-Ok-execute-clause-output c = run_output c.args.limits.now c.args.input.now _ _ _ _ _ c.output_of.ensures c.as_bytes.ensures c.in-Ok.ensures.ok c.in-Ok-execute.ensures.text c.in-Ok-execute.ensures.left
