use Rattle.std.proofs.Common.{◌≤◌, ◌<◌, ◌+◌, ◌-◌, ◌^◌, length}
use Rattle.lst_file.specs.Files.{file_offset, file_content}
use Rattle.lst_file.proofs.Growing.{Grown}
use Rattle.lst_file.proofs.file_disk.FileDisk.grow.Given as goal

abbrev pub invariant-loop-left : goal.invariant-loop-left
invariant-loop-left g l =
    Grown l.fn.self l.self (l.more - l.left) × (l.left ≤ l.more) × (file_offset l.fn.self + length (file_content l.fn.self) + l.more < 2 ^ 64)

abbrev pub decreases-loop-left : goal.decreases-loop-left
decreases-loop-left g l = l.left
