use Rattle.std.proofs.Common.{◌≡◌, ℕ, ◌%◌, ◌<◌, slice_index}
use Rattle.lst_scan.proofs.paged.are_present.Given as goal

abbrev pub invariant-loop-slot : goal.invariant-loop-slot
invariant-loop-slot l = (l.present % 2 ≡ 1 → (i : ℕ) → i < l.slot → slice_index l.times i % 2 ≡ 1)
    × (((i : ℕ) → i < l.slot → slice_index l.times i % 2 ≡ 1) → l.present % 2 ≡ 1)
