use Rattle.std.proofs.Common.{take, sym, subst}
use Rattle.lst_replies.specs.States.{floor_of}
use Rattle.lst_replies.specs.Explained.{TimeIsBounded}
use Rattle.lst_legal_runs.specs.Places.{seen_at, run_at}
use Rattle.lst_legal_runs.specs.Floors.{AreFloors, TellsTime}
use Rattle.lst_legal_runs.proofs.Deciding.{is_false, passes, refuses}
use Rattle.lst_legal_runs.proofs.Splits.{so_far_none, so_far_step, so_far_wrong, of_calls}
use Rattle.lst_legal_runs.proofs.Placing.{run_more}
use Rattle.lst_legal_runs.proofs.floors.are_times_bounded.Goals as goal

pub loop-place-init : goal.loop-place-init
loop-place-init c = (so_far_none seen_at (TellsTime c.args.history.now) c.args.places.now, c.new-floors.ensures)

pub returns-then-not-tells_time : goal.returns-then-not-tells_time
returns-then-not-tells_time c =
    let places = c.args.places.now in
    let i = c.loop-place.place-index in
    let place = c.place-item.result in
    is_false (λ each.
    so_far_wrong seen_at (TellsTime c.args.history.now) places i place c.loop-place-test.true c.place-item.is
    (refuses c.tells_time.result c.if-not-tells_time.true (c.tells_time.ensures (run_at (take i places)) c.loop-place.invariant.1))
    (of_calls (λ before session call reply. TimeIsBounded c.args.history.now (floor_of session before) call reply) (run_at places) each))

pub loop-place-preserved : goal.loop-place-preserved
loop-place-preserved c =
    let places = c.args.places.now in
    let i = c.loop-place.place-index in
    let place = c.place-item.result in (
      so_far_step seen_at (TellsTime c.args.history.now) places i place c.loop-place-test.true c.place-item.is c.loop-place.invariant.0
          (passes c.tells_time.result c.if-not-tells_time.false (c.tells_time.ensures (run_at (take i places)) c.loop-place.invariant.1)),
      subst (AreFloors c.pass.new.self) (sym (run_more places i place c.loop-place-test.true c.place-item.is)) (c.in_ok-pass.ensures (run_at (take i places)) c.loop-place.invariant.1),
    )
