use Rattle.std.proofs.Common.{refl}
use Rattle.lst_log.proofs.Loads.{first_byte}
use Rattle.lst_log.proofs.load.byte_at.Goals as goal

pub returns-clause-byte : goal.returns-clause-byte
returns-clause-byte g c = first_byte (g.D.Disk.content c.args.disk.now) c.load.new.into c.args.at _ c.requires refl c.in_ok-load.ensures.bytes
