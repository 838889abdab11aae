use Rattle.lst_command.proofs.LinesFit.{script_taken}
use Rattle.lst_command.proofs.Dumps.{dump_output}
use Rattle.lst_command.proofs.tables.dump_input.Goals as goal

pub dump-requires-clause-taken : goal.dump-requires-clause-taken
dump-requires-clause-taken c = script_taken c.args.limits.now c.as_bytes.result.now c.in-Ok.named.script (c.in-Ok.named.names, c.in-Ok.ensures.ok)

pub returns-in-Ok-dump-clause-output : goal.returns-in-Ok-dump-clause-output
returns-in-Ok-dump-clause-output c = dump_output c.args.limits.now c.args.input.now _ c.in-Ok.named _ _ _ c.output_of.ensures c.as_bytes.ensures c.in-Ok.ensures.ok c.in-Ok-dump.ensures.text c.in-Ok-dump.ensures.left
