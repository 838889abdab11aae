use Rattle.std.proofs.lemmas.Result.{IfOk-weaker}
use Rattle.lst_rule.proofs.Watching.{watched_same}
use Rattle.lst_scan.proofs.Naming.{no_whole_tail}
use Rattle.lst_scan.proofs.finds.records_for.Goals as goal

pub by_index-requires-clause-no_tail : goal.by_index-requires-clause-no_tail
by_index-requires-clause-no_tail c = no_whole_tail c.args.seat.now.view c.args.s c.consider.ensures c.requires.reader.host c.requires.reader.own c.in-None.ensures

pub returns-in-Some-clause-watched : goal.returns-in-Some-clause-watched
returns-in-Some-clause-watched c = watched_same c.args.seat.now.view c.args.s

pub returns-in-Some-clause-candidates : goal.returns-in-Some-clause-candidates
returns-in-Some-clause-candidates c = IfOk-weaker c.by_all.result _ _ (λ records all. all c.args.number) c.by_all.ensures.candidates
