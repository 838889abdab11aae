use Rattle.std.proofs.Common.{sym, subst}
use Rattle.lst_rule.specs.Surveys.{HostsAll}
use Rattle.lst_rule.specs.Spares.{AreSpares}
use Rattle.lst_session.specs.declared.crew.Crew.{Crew}
use Rattle.lst_session.proofs.Recounting.{hosts_all}
use Rattle.lst_test_threads.proofs.part_tests.part_at_last.Goals as goal

pub part-requires-clause-all : goal.part-requires-clause-all
part-requires-clause-all c = hosts_all c.args.store.now c.args.crew c.requires

pub part-requires-2-clause-all : goal.part-requires-2-clause-all
part-requires-2-clause-all c = subst (λ (crew : Crew). HostsAll crew.seat.view) (sym c.in-Err.ensures.refused) (hosts_all c.args.store.now c.args.crew c.requires)

pub part-requires-2-clause-spares : goal.part-requires-2-clause-spares
part-requires-2-clause-spares c = subst (λ (crew : Crew). AreSpares crew.seat.view crew.spares.items) (sym c.in-Err.ensures.refused) c.requires.spares
