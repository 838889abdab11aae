use Rattle.std.proofs.Common.{◌≡◌, ◌+◌, ◌*◌, ◌/◌, ◌^◌, ◌-◌, ◌<◌, slice_index, arith, ◌∙◌, ap}
use Rattle.std.proofs.Math.Nat.{one-le-pow}
use Rattle.lst_pack.proofs.Numbers.{pushed_each, pushed_within, pushed_fits, one_moved, place_within}
use Rattle.lst_pack.proofs.packing.word_of_differences.Goals as goal

pub overflow_mul-word : goal.overflow_mul-word
overflow_mul-word g c =
    let m = one_moved g.row.WIDTH c.requires.width in
    let p : 0 < 2 ^ g.row.WIDTH = one-le-pow g.row.WIDTH 2 (omega arith) in
    let h = pushed_fits c.loop-k.word 0 g.row.WIDTH _ c.loop-k.k c.requires.width m (omega arith) (omega arith) c.loop-k.invariant.low p in record { fits = omega (arith, h) }

pub overflow_add-word-in-loop-k : goal.overflow_add-word-in-loop-k
overflow_add-word-in-loop-k g c =
    let m = one_moved g.row.WIDTH c.requires.width in
    let place = place_within g.row.WIDTH c.requires.width c.args.turn (c.loop-k.k - 1) (omega arith) (omega arith) in
    let a = c.requires.least _ place in
    let b = c.requires.holds _ place in
    let h = pushed_fits c.loop-k.word (slice_index c.args.values.now (c.args.turn * (64 / g.row.WIDTH) + (c.loop-k.k - 1)) - c.args.least) g.row.WIDTH _ c.loop-k.k c.requires.width m (omega arith) (omega arith) c.loop-k.invariant.low (omega arith) in
    record { fits = omega (arith, h) }

pub loop-k-preserved : goal.loop-k-preserved
loop-k-preserved g c =
    let per = 64 / g.row.WIDTH in
    let m = one_moved g.row.WIDTH c.requires.width in
    let place = place_within g.row.WIDTH c.requires.width c.args.turn (c.loop-k.k - 1) (omega arith) (omega arith) in
    let a = c.requires.least _ place in
    let b = c.requires.holds _ place in
    let number = slice_index c.args.values.now (c.args.turn * (64 / g.row.WIDTH) + (c.loop-k.k - 1)) - c.args.least in
    let small : number < 2 ^ g.row.WIDTH = omega arith in
    record {
      few = omega arith;
      low = pushed_within c.loop-k.word number g.row.WIDTH _ per c.loop-k.k m (omega arith) (omega arith) c.loop-k.invariant.low small;
      differences = λ j low. pushed_each c.loop-k.word number g.row.WIDTH _ (per - (c.loop-k.k - 1))
          (λ j n. n ≡ slice_index c.args.values.now (c.args.turn * per + (c.loop-k.k - 1 + j)) - c.args.least) m small
          (ap (λ n. slice_index c.args.values.now (c.args.turn * per + n) - c.args.least) (let e : c.loop-k.k - 1 ≡ c.loop-k.k - 1 + 0 = omega arith in e))
          (λ i h. let e : c.loop-k.k + i ≡ c.loop-k.k - 1 + (i + 1) = omega arith in
          c.loop-k.invariant.differences i (omega arith) ∙ ap (λ n. slice_index c.args.values.now (c.args.turn * per + n) - c.args.least) e)
          j (omega arith);
    }
