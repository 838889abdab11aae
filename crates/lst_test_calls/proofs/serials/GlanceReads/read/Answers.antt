use Rattle.lst_rule.proofs.Watching.{watched_same}
use Rattle.lst_test_calls.proofs.serials.GlanceReads.read.Goals as goal

pub returns-clause-watched : goal.returns-clause-watched
returns-clause-watched c = watched_same c.args._reader.now.seat.now.view c.args._reader.now.s
