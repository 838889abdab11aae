use Rattle.std.proofs.Common.{◌≡◌, ℕ, ◌+◌, ◌/◌, ◌%◌, ◌^◌, ◌<◌, ◌≤◌, bit_or, slice_index, le-leb, leb-true, sym, subst, arith}
use mathlib.Core.Logic.{dite}
use native.Mathlib.Decide.{ℕ_discrete}
use Rattle.std.proofs.lemmas.Nat.{le_or_l, le_or_r, or_lt}
use Rattle.lst_bits.specs.Times.{time_of}
use Rattle.lst_scan.proofs.Words.{both_odd, and_odd}
use Rattle.lst_scan.proofs.paged.block_surveyed.Goals as goal

-- both numbers are below 2^63 where the two together are
both_low : (a b : ℕ) → bit_or a b < 2 ^ 63 → (a < 2 ^ 63) × (b < 2 ^ 63)
both_low a b low = let l = le_or_l a b in let r = le_or_r a b in (omega arith, omega arith)

pub loop-turn-init : goal.loop-turn-init
loop-turn-init c = (
  λ tps begin heads stamps. (λ none i from low. absurd (omega arith), λ all. omega arith),
  (λ odd i from low. absurd (omega arith), λ all. omega arith),
)

pub loop-turn-preserved : goal.loop-turn-preserved
loop-turn-preserved c = (
  λ tps begin heads stamps. let before = c.loop-turn.invariant.0 tps begin heads stamps in
      let head = c.room_taken-head.ensures tps heads in let time = c.room_taken-time.ensures begin stamps in (
        λ low. let both = both_low c.loop-turn.late (bit_or c.room_taken-head.result c.room_taken-time.result) low in let two = both_low c.room_taken-head.result c.room_taken-time.result both.1 in
            λ i from few. dite (ℕ_discrete i (c.args.start + c.loop-turn.turn))
            (λ e. subst (λ (j : ℕ). (slice_index c.args.heads.now j / 2 ≤ tps) × (time_of (slice_index c.args.times.now j) ≤ begin)) (sym e) (head.0 two.0, time.0 two.1))
            (λ ne. before.0 both.0 i from (omega arith)),
        λ all. let here = all (c.args.start + c.loop-turn.turn) (omega arith) (omega arith) in
            or_lt 63 c.loop-turn.late (bit_or c.room_taken-head.result c.room_taken-time.result) (before.1 (λ i from few. all i from (omega arith))) (or_lt 63 c.room_taken-head.result c.room_taken-time.result (head.1 here.0) (time.1 here.1)),
      ),
  (
    λ odd. let both = both_odd c.loop-turn.present (slice_index c.args.times.now (c.args.start + c.loop-turn.turn)) odd in
        λ i from few. dite (ℕ_discrete i (c.args.start + c.loop-turn.turn))
        (λ e. subst (λ (j : ℕ). slice_index c.args.times.now j % 2 ≡ 1) (sym e) both.1)
        (λ ne. c.loop-turn.invariant.1.0 both.0 i from (omega arith)),
    λ all. and_odd c.loop-turn.present (slice_index c.args.times.now (c.args.start + c.loop-turn.turn)) (c.loop-turn.invariant.1.1 (λ i from few. all i from (omega arith))) (all (c.args.start + c.loop-turn.turn) (omega arith) (omega arith)),
  ),
)

pub returns-clause-told : goal.returns-clause-told
returns-clause-told c = let end : c.loop-turn.turn ≡ 32 = (let t = c.loop-turn-test.false in let few = c.loop-turn.auto.turn-end in omega arith) in
    λ tps begin heads stamps. let all = c.loop-turn.invariant.0 tps begin heads stamps in (
      λ yes i from low. all.0 (let most = leb-true c.loop-turn.late 9223372036854775807 yes in omega arith) i from (omega arith),
      λ told. le-leb c.loop-turn.late 9223372036854775807 (let low = all.1 (λ i from low. told i from (omega arith)) in omega arith),
    )
