use Rattle.lst_command.proofs.LinesFit.{script_taken}
use Rattle.lst_command.proofs.Pasts.{past_output}
use Rattle.lst_command.proofs.shell.as_of_input.Goals as goal

pub look_back-requires-clause-taken : goal.look_back-requires-clause-taken
look_back-requires-clause-taken c = script_taken c.args.limits.now c.as_bytes.result.now c.in-Ok.script c.in-Ok.ensures.ok

pub returns-in-Ok-look_back-clause-output : goal.returns-in-Ok-look_back-clause-output
returns-in-Ok-look_back-clause-output c = past_output c.args.time c.args.limits.now c.args.input.now _ _ _ _ _ c.output_of.ensures c.as_bytes.ensures c.in-Ok.ensures.ok c.in-Ok-look_back.ensures.text c.in-Ok-look_back.ensures.left
