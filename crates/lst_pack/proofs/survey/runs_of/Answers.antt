use Rattle.std.proofs.Common.{◌≡◌, arith, ap}
use Rattle.lst_pack.specs.Counts.{runs_below}
use Rattle.lst_pack.proofs.Counting.{runs_next, runs_first, begins_same, begins_other}
use Rattle.lst_pack.proofs.survey.runs_of.Goals as goal
use Rattle.lst_pack.proofs.survey.runs_of.Goals.{then-values-place, else-values-place}

pub loop-place-init : goal.loop-place-init
loop-place-init c = let f = runs_first c.args.values.now in omega arith

pub loop-place-preserved : goal.loop-place-preserved
loop-place-preserved c =
    let values = c.args.values.now in
    let n = runs_next values c.loop-place.place in
    elim c.if-values-place.branch [
      | then-values-place w ↦ let b = begins_same values c.loop-place.place (omega arith) w.if-values-place.true in omega (arith, c.loop-place.invariant, w.same-is)
      | else-values-place w ↦ let b = begins_other values c.loop-place.place (omega arith) w.if-values-place.false in omega (arith, c.loop-place.invariant, w.same-is)
    ]

pub returns : goal.returns
returns c = let e = ap (λ n. runs_below c.args.values.now n) (let z : c.loop-place.place ≡ 256 = omega arith in z) in omega (arith, c.loop-place.invariant)
