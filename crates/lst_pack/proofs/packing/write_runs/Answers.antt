use Rattle.std.proofs.Common.{ℕ, ◌+◌, List, slice_index, arith, ◌∙◌, sym, subst, ap}
use Rattle.std.proofs.lemmas.Grind.{common_steps}
use Rattle.lst_pack.proofs.Counting.{runs_next, runs_first, runs_upto, begins_same, begins_other}
use Rattle.lst_pack.proofs.Closing.{IsOpen, none_open, next_open, still_open}
use Rattle.lst_pack.proofs.packing.write_runs.Goals as goal
use Rattle.lst_pack.proofs.packing.write_runs.Goals.{then-values-place, else-values-place}

pub loop-place-init : goal.loop-place-init
loop-place-init c = record {
  long = grind (arith, common_steps);
  first = grind (arith, common_steps);
  counted = sym (runs_first c.args.values.now);
  open_run = none_open _ _;
}

pub close_run-requires-clause-few : goal.close_run-requires-clause-few
close_run-requires-clause-few c =
    let values = c.args.values.now in
    let n = runs_next values c.loop-place.place in
    let o = begins_other values c.loop-place.place (omega arith) c.if-values-place.true in
    let u = runs_upto values (c.loop-place.place + 1) 256 (omega arith) in
    omega (arith, c.loop-place.invariant.counted)

pub loop-place-preserved : goal.loop-place-preserved
loop-place-preserved c =
    let values = c.args.values.now in
    let n = runs_next values c.loop-place.place in
    elim c.if-values-place.branch [
      | then-values-place w ↦ let o = begins_other values c.loop-place.place (omega arith) w.if-values-place.true in
          record {
            long = omega arith;
            first = ap (λ out. slice_index out 0) w.out-is ∙ w.close_run.ensures.same 0 (omega arith) ∙ c.loop-place.invariant.first;
            counted = omega (arith, c.loop-place.invariant.counted, w.run-is);
            open_run = subst (λ (out : List ℕ). IsOpen values out c.if-values-place.run (c.loop-place.place + 1)) (sym w.out-is) (subst (λ (run : ℕ). IsOpen values w.close_run.new.out run (c.loop-place.place + 1)) (sym w.run-is)
                (next_open values c.loop-place.out w.close_run.new.out c.loop-place.run c.loop-place.place (omega arith) c.loop-place.invariant.open_run w.close_run.ensures w.if-values-place.true));
          }
      | else-values-place w ↦ let o = begins_same values c.loop-place.place (omega arith) w.if-values-place.false in
          record {
            long = omega arith;
            first = ap (λ out. slice_index out 0) w.out-is ∙ c.loop-place.invariant.first;
            counted = omega (arith, c.loop-place.invariant.counted, w.run-is);
            open_run = subst (λ (out : List ℕ). IsOpen values out c.if-values-place.run (c.loop-place.place + 1)) (sym w.out-is) (subst (λ (run : ℕ). IsOpen values c.loop-place.out run (c.loop-place.place + 1)) (sym w.run-is)
                (still_open values c.loop-place.out c.loop-place.run c.loop-place.place (omega arith) c.loop-place.invariant.open_run w.if-values-place.false));
          }
    ]
