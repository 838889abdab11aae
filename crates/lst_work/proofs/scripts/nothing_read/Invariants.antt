use Rattle.std.proofs.Common.{◌≡◌, length}
use Rattle.lst_work.specs.Parts.{AreUnread}
use Rattle.lst_work.proofs.scripts.nothing_read.Given as goal

abbrev pub invariant-loop : goal.invariant-loop
invariant-loop l = (length l.reads.items ≡ l.counter) × AreUnread l.reads.items
