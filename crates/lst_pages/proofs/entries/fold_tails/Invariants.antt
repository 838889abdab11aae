use Rattle.std.proofs.Common.{◌≡◌, ◌<◌, ℕ, slice_index_or, take}
use Rattle.lst_layout.specs.declared.TheConstants.{RANGE_RECORDS}
use Rattle.lst_pages.specs.Tails.{touches}
use Rattle.lst_pages.specs.Entries.{blank, folded}
use Rattle.lst_pages.proofs.entries.fold_tails.Given as goal

abbrev pub invariant-loop-tail : goal.invariant-loop-tail
invariant-loop-tail l = (i : ℕ) → i < RANGE_RECORDS → slice_index_or l.entries i blank ≡ folded (touches l.column i) l.column (slice_index_or l.initial.entries i blank) (take l.tail-index l.tails)
