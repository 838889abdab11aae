use Rattle.std.proofs.lemmas.Result.{IfOk-weaker}
use Rattle.lst_script.proofs.Fitting.{script_fits}
use Rattle.lst_test_journal.proofs.crash_tests.script_of.Goals as goal

pub returns-in-Ok : goal.returns-in-Ok
returns-in-Ok c = script_fits c.args.limits.now c.args.text.now c.in-Ok.script c.in-Ok.ensures.ok
