use Rattle.std.proofs.Common.{◌-◌, slice_index}
use Rattle.lst_merge.specs.Pages.{entry_of}
use Rattle.lst_merge.proofs.Folding.{FoldsOn}
use Rattle.lst_merge.proofs.folds.fold_run.Given as goal

abbrev pub invariant-loop-number : goal.invariant-loop-number
invariant-loop-number l = FoldsOn l.store l.fn.seat.view l.seat l.range l.column l.run.tps l.run.end l.number (entry_of (slice_index l.initial.words) l.initial.values) l.words l.values

abbrev pub decreases-loop-number : goal.decreases-loop-number
decreases-loop-number l = l.run.end - l.number
