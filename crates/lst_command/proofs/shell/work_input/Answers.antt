use Rattle.std.proofs.Common.{All, subst, sym}
use Rattle.lst_layout.specs.declared.limits.Limits.{Limits}
use Rattle.lst_command.specs.Runs.{IsTaken}
use Rattle.lst_command.proofs.LinesFit.{script_taken}
use Rattle.lst_command.proofs.Leaving.{work_output}
use Rattle.lst_command.proofs.shell.work_input.Goals as goal

pub work_at-requires-clause-fits : goal.work_at-requires-clause-fits
work_at-requires-clause-fits g c lifetimes outlived = subst (λ (limits : Limits). All (IsTaken limits) c.in-Ok.script) (sym c.layout.ensures)
    (script_taken c.args.limits.now c.as_bytes.result.now c.in-Ok.script c.in-Ok.ensures.ok)

pub returns-in-Ok-work_at-clause-output : goal.returns-in-Ok-work_at-clause-output
returns-in-Ok-work_at-clause-output g c = work_output c.args.level c.args.limits.now c.args.input.now c.as_bytes.result.now c.in-Ok.script c.layout.result c.in-Ok-work_at.told (c.in-Ok-work_at.store, c.in-Ok-work_at.crew) c.report_output.result
    c.as_bytes.ensures c.in-Ok.ensures.ok c.layout.ensures c.in-Ok-work_at.ensures c.report_output.ensures.output
