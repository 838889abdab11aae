use Rattle.std.proofs.Common.{◌≡◌, ℕ, ◌+◌, ◌*◌, ◌^◌, ◌-◌, ◌<◌, ◌≤◌, slice_index, arith, refl, ◌∙◌, ap, inl, inr}
use Rattle.lst_pack.proofs.Numbers.{pushed_each, pushed_within, pushed_fits}
use Rattle.lst_pack.proofs.Written.{found}
use Rattle.lst_pack.proofs.packing.word_of_codes.Goals as goal

fits : (word number left : ℕ) → 0 < left → left ≤ 16 → word < 2 ^ ((16 - left) * 4) → number < 16 → word * 16 + number < 2 ^ 64
fits word number left some within low small = pushed_fits word number 4 16 left (inr (inr (inl refl))) refl some within low small

pub overflow_mul-word : goal.overflow_mul-word
overflow_mul-word c = let h = fits c.loop-k.word 0 c.loop-k.k (omega arith) (omega arith) c.loop-k.invariant.low (omega arith) in record { fits = omega arith }

pub overflow_add-word : goal.overflow_add-word
overflow_add-word c =
    let place : c.args.turn * 16 + (c.loop-k.k - 1) < 256 = omega arith in
    let f = found c.args.known.now c.args.size _ c.place_near-code.result c.requires.known.rising (c.requires.known.all c.requires.few _ place) c.place_near-code.ensures.below c.place_near-code.ensures.from in
    let h = fits c.loop-k.word c.place_near-code.result c.loop-k.k (omega arith) (omega arith) c.loop-k.invariant.low (omega arith) in record { fits = omega arith }

pub loop-k-preserved : goal.loop-k-preserved
loop-k-preserved c =
    let place : c.args.turn * 16 + (c.loop-k.k - 1) < 256 = omega arith in
    let f = found c.args.known.now c.args.size _ c.place_near-code.result c.requires.known.rising (c.requires.known.all c.requires.few _ place) c.place_near-code.ensures.below c.place_near-code.ensures.from in
    record {
      few = omega arith;
      low = pushed_within c.loop-k.word c.place_near-code.result 4 16 16 c.loop-k.k refl (omega arith) (omega arith) c.loop-k.invariant.low (omega arith);
      codes = λ j low. pushed_each c.loop-k.word c.place_near-code.result 4 16 (16 - (c.loop-k.k - 1))
          (λ j n. (n < c.args.size) × (slice_index c.args.known.now n ≡ slice_index c.args.values.now (c.args.turn * 16 + (c.loop-k.k - 1 + j)))) refl (omega arith)
          (f.0, f.1 ∙ ap (λ n. slice_index c.args.values.now (c.args.turn * 16 + n)) (omega arith))
          (λ i h. let e : c.loop-k.k + i ≡ c.loop-k.k - 1 + (i + 1) = omega arith in
          let q = c.loop-k.invariant.codes i (omega arith) in (q.0, q.1 ∙ ap (λ n. slice_index c.args.values.now (c.args.turn * 16 + n)) e))
          j (omega arith);
    }
