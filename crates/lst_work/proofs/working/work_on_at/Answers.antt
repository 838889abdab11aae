use Rattle.std.proofs.Common.{rules}
use Rattle.lst_work_laws.specs.Phases.{HaveRunThrough}
use Rattle.lst_work_laws.specs.Whole.{AreAll}
use Rattle.lst_work_laws.proofs.Working.{they_work}
use Rattle.lst_work.proofs.working.work_on_at.Goals as goal

pub returns-clause-works : goal.returns-clause-works
returns-clause-works g c =
    let store = c.args.store.now in
    let all : AreAll store c.from_vec.result = search rules in
    let run : HaveRunThrough store c.args.script.now c.args.sessions c.from_vec.result c.args.merger.now.seat.view c.run_script.new.merger.seat.view c.from_items.result = search rules in
    they_work store c.args.script.now c.args.sessions c.from_vec.result c.args.merger.now.seat.view c.run_script.new.merger.seat.view c.from_items.result c.requires.all all c.requires.merger.seat_of.limits c.requires.fits run

pub returns-clause-merger : goal.returns-clause-merger
returns-clause-merger g c = c.in_ok-passes.ensures.merger

pub returns-in_err-passes-clause-merger : goal.returns-in_err-passes-clause-merger
returns-in_err-passes-clause-merger g c = c.in_err-passes.ensures.merger

pub returns-in_err-lines-clause-merger : goal.returns-in_err-lines-clause-merger
returns-in_err-lines-clause-merger g c = c.requires.merger
