use Rattle.std.proofs.Common.{take, sym, subst}
use Rattle.lst_replies.specs.Explained.{MergeIsAnswered}
use Rattle.lst_legal_runs.specs.Places.{seen_at, run_at}
use Rattle.lst_legal_runs.specs.Merges.{AreMerges, TellsMerge}
use Rattle.lst_legal_runs.proofs.Deciding.{is_false, passes, refuses}
use Rattle.lst_legal_runs.proofs.Splits.{so_far_none, so_far_step, so_far_wrong, of_merges}
use Rattle.lst_legal_runs.proofs.Placing.{run_more}
use Rattle.lst_legal_runs.proofs.merges.are_merges_consistent.Goals as goal

pub loop-place-init : goal.loop-place-init
loop-place-init c = (so_far_none seen_at (TellsMerge c.args.limits.now (run_at c.args.places.now)) c.args.places.now, c.new-merges.ensures)

pub returns-then-not-tells_merge : goal.returns-then-not-tells_merge
returns-then-not-tells_merge c =
    let places = c.args.places.now in
    let run = run_at places in
    let i = c.loop-place.place-index in
    let place = c.place-item.result in
    is_false (λ each.
    so_far_wrong seen_at (TellsMerge c.args.limits.now run) places i place c.loop-place-test.true c.place-item.is
    (refuses c.tells_merge.result c.if-not-tells_merge.true (c.tells_merge.ensures run (run_at (take i places)) c.accepted_count-accepted.ensures c.in_ok-beginners.ensures c.loop-place.invariant.1))
    (of_merges (λ before range column reply. MergeIsAnswered c.args.limits.now run before range column reply) run each))

pub loop-place-preserved : goal.loop-place-preserved
loop-place-preserved c =
    let places = c.args.places.now in
    let run = run_at places in
    let i = c.loop-place.place-index in
    let place = c.place-item.result in (
      so_far_step seen_at (TellsMerge c.args.limits.now run) places i place c.loop-place-test.true c.place-item.is c.loop-place.invariant.0
          (passes c.tells_merge.result c.if-not-tells_merge.false (c.tells_merge.ensures run (run_at (take i places)) c.accepted_count-accepted.ensures c.in_ok-beginners.ensures c.loop-place.invariant.1)),
      subst (AreMerges c.pass.new.self) (sym (run_more places i place c.loop-place-test.true c.place-item.is)) (c.in_ok-pass.ensures (run_at (take i places)) c.loop-place.invariant.1),
    )
