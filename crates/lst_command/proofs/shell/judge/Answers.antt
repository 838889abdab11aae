use Rattle.lst_command.proofs.Leaving.{judged}
use Rattle.lst_command.proofs.shell.judge.Goals as goal

pub returns-in-Ok-clause-output : goal.returns-in-Ok-clause-output
returns-in-Ok-clause-output c = judged c.args.level c.args.limits.now c.args.claim.now _ _ c.in-Ok.ensures c.verdict.ensures.legal c.verdict.ensures.illegal
