use Rattle.std.proofs.Common.{◌≡◌, false}
use Rattle.lst_redo.specs.Journals.{IsOpenJournal}
use Rattle.lst_test_journal.proofs.driving.Driven.play.Given as goal

abbrev pub invariant-loop-line : goal.invariant-loop-line
invariant-loop-line g l = l.self.redo.failed ≡ false → IsOpenJournal g.D.Disk.content g.D.Disk.images l.self.redo
