use Rattle.lst_session.proofs.Crewed.{crew_view}
use Rattle.lst_session.proofs.Merging.{crew_merged, merge_answers}
use Rattle.lst_session.proofs.crew.Crew.merge.Goals as goal

pub merge-requires-clause-host : goal.merge-requires-clause-host
merge-requires-clause-host c = c.requires.crew.merger

pub returns-clause-crew : goal.returns-clause-crew
returns-clause-crew c = let e = c.merge.ensures in crew_merged c.args.store.now c.args.self.now (record { seat = c.merge.new.seat; spares = c.merge.new.spares }) c.args.range c.args.column c.merge.result c.requires.crew e.seat e.hosted e.spares e.merges

pub returns-clause-machine : goal.returns-clause-machine
returns-clause-machine c tells = merge_answers c.args.self.now.seat.view c.merge.new.seat.view (crew_view c.args.store.now c.args.self.now c.requires.crew tells) c.consider.ensures c.requires.crew.pinned c.requires.crew.spares.idle c.args.range c.args.column c.requires.page c.merge.result c.merge.ensures.merges
