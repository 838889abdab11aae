use Rattle.lst_work.proofs.Fitting.{lines_fit}
use Rattle.lst_work.proofs.loading.load.Goals as goal

pub work_total-requires-clause-fits : goal.work_total-requires-clause-fits
work_total-requires-clause-fits g c κs within = lines_fit c.args.seed c.args.keys c.args.sessions c.load_layout-layout.result.limits c.in_ok-script.script c.requires.some c.requires.hosts c.load_layout-layout.ensures c.in_ok-script.ensures
