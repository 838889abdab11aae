use Rattle.std.proofs.Common.{IfSome, take, sym, subst}
use Rattle.lst_replies.specs.Runs.{write_of}
use Rattle.lst_replies.specs.States.{state_of}
use Rattle.lst_replies.specs.Explained.{FullnessIsExplained}
use Rattle.lst_legal_runs.specs.Places.{seen_at, run_at}
use Rattle.lst_legal_runs.specs.Fullness.{AreWritten, TellsFullness}
use Rattle.lst_legal_runs.proofs.Deciding.{is_false, passes, refuses}
use Rattle.lst_legal_runs.proofs.Splits.{so_far_none, so_far_step, so_far_wrong, of_calls}
use Rattle.lst_legal_runs.proofs.Placing.{run_more, traced_read}
use Rattle.lst_legal_runs.proofs.Marking.{nothing_marked}
use Rattle.lst_legal_runs.proofs.fullness.is_fullness_explained.Goals as goal

pub loop-place-init : goal.loop-place-init
loop-place-init c = (so_far_none seen_at (TellsFullness c.args.limits.now c.args.history.now (run_at c.args.places.now)) c.args.places.now, λ session key. nothing_marked (c.new-written.ensures session key 0))

pub returns-then-not-tells_fullness : goal.returns-then-not-tells_fullness
returns-then-not-tells_fullness c =
    let places = c.args.places.now in
    let run = run_at places in
    let i = c.loop-place.place-index in
    let place = c.place-item.result in
    is_false (λ each.
    so_far_wrong seen_at (TellsFullness c.args.limits.now c.args.history.now run) places i place c.loop-place-test.true c.place-item.is
    (refuses c.tells_fullness.result c.if-not-tells_fullness.true (c.tells_fullness.ensures c.args.history.now run (run_at (take i places)) c.in_ok-fullness.ensures c.loop-place.invariant.1 (traced_read places i place c.loop-place-test.true c.place-item.is c.requires)))
    (of_calls (λ before session call reply. IfSome (state_of session before).current (λ transaction. IfSome (write_of call) (λ write. FullnessIsExplained c.args.limits.now c.args.history.now run before session transaction write reply))) run each))

pub loop-place-preserved : goal.loop-place-preserved
loop-place-preserved c =
    let places = c.args.places.now in
    let run = run_at places in
    let i = c.loop-place.place-index in
    let place = c.place-item.result in (
      so_far_step seen_at (TellsFullness c.args.limits.now c.args.history.now run) places i place c.loop-place-test.true c.place-item.is c.loop-place.invariant.0
          (passes c.tells_fullness.result c.if-not-tells_fullness.false (c.tells_fullness.ensures c.args.history.now run (run_at (take i places)) c.in_ok-fullness.ensures c.loop-place.invariant.1 (traced_read places i place c.loop-place-test.true c.place-item.is c.requires))),
      subst (AreWritten c.note_write.new.written) (sym (run_more places i place c.loop-place-test.true c.place-item.is)) (c.in_ok-note_write.ensures (run_at (take i places)) c.loop-place.invariant.1),
    )
