use Rattle.std.proofs.Common.{◌<◌, sym, subst}
use Rattle.lst_layout.specs.declared.layout.Layout.{Layout}
use Rattle.lst_work.proofs.Totalling.{worked_total}
use Rattle.lst_work.proofs.totals.work_total.Goals as goal

pub total_of-requires-clause-column : goal.total_of-requires-clause-column
total_of-requires-clause-column g c κs within = subst (λ (l : Layout). c.args.column < l.limits.columns) (sym c.in_ok-report.ensures.opened) c.requires.column

pub returns : goal.returns
returns g c = worked_total c.args.layout.now c.args.script.now c.args.column c.in_ok-report.report c.in_ok-report.store c.in_ok-report.crew c.in_ok-total.crew c.in_ok-report.ensures c.consider.ensures c.in_ok-report.ensures.seen c.in_ok-total.total c.in_ok-total.ensures
