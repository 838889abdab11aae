use Rattle.lst_session.proofs.Merging.{merger_merged}
use Rattle.lst_session.proofs.passes.Merger.merge.Goals as goal

pub returns-clause-merger : goal.returns-clause-merger
returns-clause-merger c = let e = c.merge.ensures in merger_merged c.args.store.now c.args.self.now (record { seat = c.merge.new.seat; spares = c.merge.new.spares }) c.args.range c.args.column c.merge.result c.requires.merger e.seat e.hosted e.spares e.merges
