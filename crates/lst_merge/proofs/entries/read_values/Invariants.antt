use Rattle.std.proofs.Common.{◌≡◌, ◌<◌, ◌≤◌, ℕ, List, cond, length, slice_index}
use Rattle.lst_bits.specs.Times.{is_present}
use Rattle.lst_pack.specs.Forms.{Packs}
use Rattle.lst_pages.specs.Frames.{packed_in, stamp_in}
use Rattle.lst_merge.proofs.entries.read_values.Given as goal

abbrev pub invariant-loop-slot : goal.invariant-loop-slot
invariant-loop-slot l = record {
  long : length l.values ≡ 256;
  read : (packed : List ℕ) → Packs (packed_in (slice_index l.words)) packed → (i : ℕ) → i < l.slot → slice_index l.values i ≡ cond (is_present (stamp_in (slice_index l.words) i)) (slice_index packed i) 0;
  rest : (packed : List ℕ) → Packs (packed_in (slice_index l.words)) packed → (i : ℕ) → l.slot ≤ i → slice_index l.values i ≡ slice_index packed i;
}
