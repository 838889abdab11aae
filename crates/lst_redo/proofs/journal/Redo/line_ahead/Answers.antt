use Rattle.lst_redo.proofs.Ahead.{by_crew_ahead}
use Rattle.lst_redo.proofs.journal.Redo.line_ahead.Goals as goal

pub returns-in-None : goal.returns-in-None
returns-in-None g c = λ made staged.
    by_crew_ahead g.D.Disk.content g.D.Disk.images g.D.Disk.clock g.D.Disk.images_since g.D.Disk.room_calls g.D.Disk.room_bytes g.D.Disk.calls_left g.D.Disk.faults c.args.self.now c.by_crew.new.self c.args.line.now c.in-None.ensures.none made
    c.args.batch.now.items staged (g.met.D.Disk.only_now c.args.self.now.log.disk) c.by_crew.result c.by_crew.ensures

pub returns-in-Some : goal.returns-in-Some
returns-in-Some g c = c.commit_ahead.ensures
