use Rattle.std.proofs.Common.{take}
use Rattle.lst_replies.specs.States.{state_of}
use Rattle.lst_legal_runs.specs.Places.{seen_at, run_at}
use Rattle.lst_legal_runs.specs.Rules.{StateIsToldAt, TellsState}
use Rattle.lst_legal_runs.proofs.Deciding.{is_false, passes, refuses}
use Rattle.lst_legal_runs.proofs.Splits.{so_far_none, so_far_step, so_far_wrong, of_calls}
use Rattle.lst_legal_runs.proofs.Placing.{traced_read}
use Rattle.lst_legal_runs.proofs.refusals.are_refusals_exact.Goals as goal

pub loop-place-init : goal.loop-place-init
loop-place-init c = so_far_none seen_at (TellsState c.args.level c.args.limits.now) c.args.places.now

pub returns-then-not-tells_state : goal.returns-then-not-tells_state
returns-then-not-tells_state c =
    let places = c.args.places.now in
    let i = c.loop-place.place-index in
    let place = c.place-item.result in
    let behind = traced_read places i place c.loop-place-test.true c.place-item.is c.requires in
    is_false (λ each.
    so_far_wrong seen_at (TellsState c.args.level c.args.limits.now) places i place c.loop-place-test.true c.place-item.is
    (refuses c.tells_state.result c.if-not-tells_state.true (c.tells_state.ensures (run_at (take i places)) behind))
    (of_calls (λ before session call reply. StateIsToldAt c.args.level c.args.limits.now (state_of session before) call reply) (run_at places) each))

pub loop-place-preserved : goal.loop-place-preserved
loop-place-preserved c =
    let places = c.args.places.now in
    let i = c.loop-place.place-index in
    let place = c.place-item.result in
    let behind = traced_read places i place c.loop-place-test.true c.place-item.is c.requires in
    so_far_step seen_at (TellsState c.args.level c.args.limits.now) places i place c.loop-place-test.true c.place-item.is c.loop-place.invariant
    (passes c.tells_state.result c.if-not-tells_state.false (c.tells_state.ensures (run_at (take i places)) behind))
