use Rattle.std.proofs.Common.{rules}
use Rattle.lst_disk.proofs.memory.MemDiskDisk.room.Goals as goal

pub returns-clause-torn : goal.returns-clause-torn
returns-clause-torn c = search rules
