use Rattle.std.proofs.Common.{refl}
use Rattle.lst_layout.specs.declared.TheConstants.{FRAME_TIMES}
use Rattle.lst_rule.proofs.Running.{frame_run}
use Rattle.lst_rule.proofs.runs.load_times.Goals as goal

pub returns-clause-found : goal.returns-clause-found
returns-clause-found c = frame_run _ _ _ _ c.args.s c.args.frame FRAME_TIMES c.load_run.ensures.loads (λ i. refl) c.requires.host c.requires.run
