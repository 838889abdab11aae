use Rattle.std.proofs.Common.{◌≡◌, ℕ, ◌+◌, ◌*◌, replicate, slice_index, arith, subst, refl}
use Rattle.std.proofs.lemmas.Grind.{common_steps}
use Rattle.std.proofs.lemmas.List.{get_or-replicate}
use Rattle.lst_pack.specs.Counts.{IsKnown}
use Rattle.lst_pack.proofs.Counting.{noted_first, noted_on, noted_learnt, noted_all, recent_first, recent_learnt, notes_same}
use Rattle.lst_pack.proofs.survey.note.Goals as goal
use Rattle.lst_pack.proofs.survey.note.Goals.{then-recent-spot+else-count-gt16, else-recent-spot}

pub loop-turn-init : goal.loop-turn-init
loop-turn-init c = record {
  long = refl;
  few = omega arith;
  known = noted_first c.args.values.now _ (grind (arith, common_steps));
  recent = recent_first c.args.values.now _ (replicate 128 (slice_index c.args.values.now 0)) (grind (arith, common_steps)) (λ spot low. get_or-replicate 128 spot (slice_index c.args.values.now 0) 0 low);
}

pub returns-then-count-gt16 : goal.returns-then-count-gt16
returns-then-count-gt16 c =
    noted_all c.args.values.now _ c.learn-count.new.known c.learn-count.result
    (noted_learnt c.args.values.now (c.loop-turn.turn * 16 + c.loop-k.k) c.loop-k.known c.learn-count.new.known c.loop-k.count c.learn-count.result (omega arith) c.loop-k.invariant.known
    c.learn-count.ensures.few c.learn-count.ensures.rising c.learn-count.ensures.new c.learn-count.ensures.kept c.learn-count.ensures.others)
    (λ few. absurd (omega (arith, few, c.if-count-gt16.true)))

pub loop-k-init : goal.loop-k-init
loop-k-init c = notes_same c.args.values.now _ _ _ _ _ _ _ _ refl refl refl (let e : c.loop-turn.turn * 16 + 0 ≡ c.loop-turn.turn * 16 = omega arith in e) c.loop-turn.invariant

pub loop-turn-preserved : goal.loop-turn-preserved
loop-turn-preserved c = notes_same c.args.values.now _ _ _ _ _ _ _ _ refl refl refl (let e : (c.loop-turn.turn + 1) * 16 ≡ c.loop-turn.turn * 16 + c.loop-k.k = omega arith in e) c.loop-k.invariant

pub loop-k-preserved : goal.loop-k-preserved
loop-k-preserved c =
    let values = c.args.values.now in
    let place = c.loop-turn.turn * 16 + c.loop-k.k in
    let on : c.loop-turn.turn * 16 + (c.loop-k.k + 1) ≡ c.loop-turn.turn * 16 + c.loop-k.k + 1 = omega arith in
    elim c.if-recent-spot.branch [
      | then-recent-spot+else-count-gt16 w ↦ notes_same values _ _ _ _ _ _ _ _ w.known-is w.recent-is w.count-is on (record {
        long = grind (arith, common_steps, c.loop-k.invariant.long);
        few = w.if-count-gt16.false;
        known = noted_learnt values place c.loop-k.known w.learn-count.new.known c.loop-k.count w.learn-count.result (omega arith) c.loop-k.invariant.known
            w.learn-count.ensures.few w.learn-count.ensures.rising w.learn-count.ensures.new w.learn-count.ensures.kept w.learn-count.ensures.others;
        recent = recent_learnt c.loop-k.known w.learn-count.new.known c.loop-k.recent c.loop-k.count w.learn-count.result c.spot_of-spot.result _ (omega (arith, c.loop-k.invariant.long, c.spot_of-spot.ensures))
            c.loop-k.invariant.recent w.learn-count.ensures.new w.learn-count.ensures.kept;
      })
      | else-recent-spot w ↦ notes_same values _ _ _ _ _ _ _ _ w.known-is w.recent-is w.count-is on (record {
        long = c.loop-k.invariant.long;
        few = c.loop-k.invariant.few;
        known = noted_on values place c.loop-k.known c.loop-k.count c.loop-k.invariant.known
            (subst (λ (n : ℕ). IsKnown c.loop-k.known c.loop-k.count n) w.if-recent-spot.false (c.loop-k.invariant.recent c.spot_of-spot.result c.spot_of-spot.ensures));
        recent = c.loop-k.invariant.recent;
      })
    ]

pub returns : goal.returns
returns c = noted_all c.args.values.now (c.loop-turn.turn * 16) c.loop-turn.known c.loop-turn.count c.loop-turn.invariant.known (λ few. omega arith)
