use Rattle.std.proofs.Common.{◌≡◌, ℕ, ◌%◌, slice_index, sym, subst, arith}
use mathlib.Core.Logic.{dite}
use native.Mathlib.Decide.{ℕ_discrete}
use Rattle.lst_scan.proofs.Words.{both_odd, and_odd}
use Rattle.lst_scan.proofs.paged.are_present.Goals as goal

pub loop-slot-preserved : goal.loop-slot-preserved
loop-slot-preserved c = (
  λ odd i low.
      let both = both_odd c.loop-slot.present (slice_index c.args.times.now c.loop-slot.slot) odd in
      dite (ℕ_discrete i c.loop-slot.slot)
      (λ e. subst (λ (j : ℕ). slice_index c.args.times.now j % 2 ≡ 1) (sym e) both.1)
      (λ ne. c.loop-slot.invariant.0 both.0 i (omega arith)),
  λ all. and_odd c.loop-slot.present (slice_index c.args.times.now c.loop-slot.slot) (c.loop-slot.invariant.1 (λ i low. all i (omega arith))) (all c.loop-slot.slot (omega arith)),
)
