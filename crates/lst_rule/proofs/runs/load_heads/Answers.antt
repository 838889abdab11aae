use Rattle.lst_rule.proofs.Running.{head_run}
use Rattle.lst_rule.proofs.runs.load_heads.Goals as goal

pub returns-clause-found : goal.returns-clause-found
returns-clause-found c = head_run c.args.range _ _ _ c.args.s c.load_run.ensures.loads
