use Rattle.std.proofs.Common.{◌<◌, ℕ, slice_index, slice_index_or}
use Rattle.lst_pages.specs.Entries.{blank}
use Rattle.lst_pages.specs.Frames as frame
use Rattle.lst_pages.proofs.frames.has_entries.Given as goal

abbrev pub invariant-loop-slot : goal.invariant-loop-slot
invariant-loop-slot l = (i : ℕ) → i < l.slot → frame.IsEntry (slice_index l.words) (slice_index l.values i) i (slice_index_or l.entries i blank)
