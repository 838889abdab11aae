use Rattle.std.proofs.Common.{All, refl, subst, sym}
use Rattle.lst_layout.specs.declared.limits.Limits.{Limits}
use Rattle.lst_command.specs.Runs.{IsTaken}
use Rattle.lst_command.proofs.Crashes.{crash_output}
use Rattle.lst_command.proofs.LinesFit.{script_taken}
use Rattle.lst_command.proofs.crashing.crash_input.Goals as goal

pub crash_lines-requires-clause-taken : goal.crash_lines-requires-clause-taken
crash_lines-requires-clause-taken c = subst (λ (limits : Limits). All (IsTaken limits) c.in-Ok.script) (sym c.layout.ensures)
    (script_taken c.args.limits.now c.as_bytes.result.now c.in-Ok.script c.in-Ok.ensures.ok)

pub returns-in-Ok-crash_lines-clause-output : goal.returns-in-Ok-crash_lines-clause-output
returns-in-Ok-crash_lines-clause-output c = crash_output c.args.disk c.args.limits.now c.layout.result.limits c.from-stop.result c.args.input.now _ _ _ c.in-Ok-crash_lines.crashed.left _ (record { said = refl; ended = refl; alone = refl })
    c.as_bytes.ensures c.in-Ok.ensures.ok c.layout.ensures c.from-stop.ensures c.in-Ok-crash_lines.ensures
