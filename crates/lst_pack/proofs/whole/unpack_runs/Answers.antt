use Rattle.std.proofs.Common.{◌≡◌, ◌+◌, ◌*◌, ◌<◌, ◌≤◌, slice_index, arith, ap, ◌∙◌, refl}
use mathlib.Core.Logic.{dite}
use native.Mathlib.Decide.{dec_lt}
use Rattle.lst_pack.specs.Forms.{run_value}
use Rattle.lst_pack.proofs.Runs.{ends_within, one_run, end_here, end_past}
use Rattle.lst_pack.proofs.whole.unpack_runs.Goals as goal

pub loop-at-init : goal.loop-at-init
loop-at-init c = record {
  even = (0, refl, omega arith);
  here = (λ h. absurd (omega arith), λ _. refl, omega arith);
  done = λ place run low in_run. absurd (omega arith);
}

pub fill_run-requires-clause-some : goal.fill_run-requires-clause-some
fill_run-requires-clause-some c =
    let even = c.loop-at.invariant.even in
    let e = end_here c.args.words.now even.0 c.loop-at.at even.1 in
    let p = end_past c.args.words.now c.args.runs even.0 c.loop-at.at c.loop-at.start c.requires.runs even.1 (omega (arith, even.1)) c.loop-at.invariant.here.0 c.loop-at.invariant.here.1 in
    omega (arith, e, p)

pub fill_run-requires-clause-end : goal.fill_run-requires-clause-end
fill_run-requires-clause-end c =
    let even = c.loop-at.invariant.even in
    let e = end_here c.args.words.now even.0 c.loop-at.at even.1 in
    let h = ends_within c.args.words.now c.args.runs c.requires.runs even.0 (omega (arith, even.1)) in
    omega (arith, e, h)

pub loop-at-preserved : goal.loop-at-preserved
loop-at-preserved c =
    let words = c.args.words.now in
    let even = c.loop-at.invariant.even in
    let low_run : even.0 < c.args.runs = omega (arith, even.1) in
    let e = end_here words even.0 c.loop-at.at even.1 in
    let h = ends_within words c.args.runs c.requires.runs even.0 low_run in
    let n : slice_index words (2 + c.loop-at.at) ≡ slice_index words (c.loop-at.at + 2) = ap (λ n. slice_index words n) (omega arith) in
    let v : slice_index words (1 + c.loop-at.at) ≡ run_value words even.0 = ap (λ n. slice_index words (1 + n)) even.1 in
    record {
      even = (even.0 + 1, omega (arith, even.1), omega (arith, low_run));
      here = (λ _. n, λ z. absurd (omega arith), omega (arith, e, h));
      done = λ place run low in_run. dite (dec_lt place c.loop-at.start)
          (λ (below : place < c.loop-at.start). c.fill_run.ensures.before place below ∙ c.loop-at.invariant.done place run below in_run)
          (λ past. let from : c.loop-at.start ≤ place = omega (arith, past) in
          let f = ap (λ n. slice_index words n) even.1 in
          let same = one_run words c.args.runs place even.0 run c.requires.runs
          (record { one = low_run; from = λ some. omega (arith, c.loop-at.invariant.here.0 (omega (arith, some, even.1)), f, from); below = omega (arith, low, e) }) in_run in
          c.fill_run.ensures.run place from low ∙ v ∙ ap (λ n. run_value words n) same);
    }

pub returns : goal.returns
returns c = λ place run in_run. let h = ends_within c.args.words.now c.args.runs c.requires.runs run in_run.one in
    let even = c.loop-at.invariant.even in
    let i : c.loop-at.at ≡ 2 * c.args.runs = omega (arith, even.1, even.2) in
    let e = ap (λ n. slice_index c.args.words.now n) i in
    c.loop-at.invariant.done place run (omega (arith, c.loop-at.invariant.here.0 (omega (arith, i, c.requires.runs.some)), e, c.requires.runs.last, h, in_run.below)) in_run
