use Rattle.lst_work_laws.proofs.Concluding.{worked_script_is_legal}
use Rattle.lst_work.proofs.Reports.{is_worked}
use Rattle.lst_work.proofs.reporting.work_at.Goals as goal

pub returns : goal.returns
returns g c = is_worked worked_script_is_legal c.args.level c.args.layout.now c.args.script.now c.in_ok-store.store c.in_ok-store.sessions c.in_ok-sessions.sessions c.in_ok-store.merger c.work_on_at.new.merger c.in_ok-sessions.replies
    c.in_ok-crew.crew c.in_ok-report.crew c.in_ok-report.report
    c.in_ok-store.ensures.layout c.in_ok-store.ensures.nothing c.in_ok-store.ensures.opening c.requires.fits c.in_ok-sessions.ensures.all c.in_ok-sessions.ensures.works c.in_ok-sessions.ensures.ends c.work_on_at.ensures.merger
    c.in_ok-crew.ensures.gathered c.in_ok-crew.ensures.crew c.in_ok-report.ensures.reported
    (let gathered = c.in_ok-crew.ensures.gathered in c.in_ok-report.ensures.seen record { whole = gathered.whole; seen = gathered.seen })
