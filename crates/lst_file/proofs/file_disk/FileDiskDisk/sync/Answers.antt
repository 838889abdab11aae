use Rattle.lst_file.proofs.Noting.{sync_crash}
use Rattle.lst_file.proofs.file_disk.FileDiskDisk.sync.Goals as goal

pub returns-in-Ok-clause-crash : goal.returns-in-Ok-clause-crash
returns-in-Ok-clause-crash g c = sync_crash c.args.self.now.offset (g.F.Calls.events c.args.self.now.calls) (g.F.Calls.events c.sync.new.self) c.in-Ok.ensures
