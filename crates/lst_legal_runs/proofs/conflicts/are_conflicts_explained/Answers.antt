use Rattle.std.proofs.Common.{IfSome, take}
use Rattle.lst_replies.specs.Runs.{write_of}
use Rattle.lst_replies.specs.States.{state_of}
use Rattle.lst_replies.specs.Explained.{ConflictIsExplained}
use Rattle.lst_legal_runs.specs.Places.{seen_at, run_at}
use Rattle.lst_legal_runs.specs.Conflicts.{TellsConflict}
use Rattle.lst_legal_runs.proofs.Deciding.{is_false, passes, refuses}
use Rattle.lst_legal_runs.proofs.Splits.{so_far_none, so_far_step, so_far_wrong, of_calls}
use Rattle.lst_legal_runs.proofs.Placing.{traced_read}
use Rattle.lst_legal_runs.proofs.conflicts.are_conflicts_explained.Goals as goal

pub loop-place-init : goal.loop-place-init
loop-place-init c = so_far_none seen_at (TellsConflict c.args.history.now (run_at c.args.places.now)) c.args.places.now

pub returns-then-not-tells_conflict : goal.returns-then-not-tells_conflict
returns-then-not-tells_conflict c =
    let places = c.args.places.now in
    let run = run_at places in
    let i = c.loop-place.place-index in
    let place = c.place-item.result in
    is_false (λ each.
    so_far_wrong seen_at (TellsConflict c.args.history.now run) places i place c.loop-place-test.true c.place-item.is
    (refuses c.tells_conflict.result c.if-not-tells_conflict.true (c.tells_conflict.ensures c.args.history.now run (run_at (take i places)) c.in_ok-conflicts.ensures (traced_read places i place c.loop-place-test.true c.place-item.is c.requires)))
    (of_calls (λ before session call reply. IfSome (state_of session before).current (λ transaction. IfSome (write_of call) (λ write. ConflictIsExplained c.args.history.now run session transaction write reply))) run each))

pub loop-place-preserved : goal.loop-place-preserved
loop-place-preserved c =
    let places = c.args.places.now in
    let run = run_at places in
    let i = c.loop-place.place-index in
    let place = c.place-item.result in
    so_far_step seen_at (TellsConflict c.args.history.now run) places i place c.loop-place-test.true c.place-item.is c.loop-place.invariant
    (passes c.tells_conflict.result c.if-not-tells_conflict.false (c.tells_conflict.ensures c.args.history.now run (run_at (take i places)) c.in_ok-conflicts.ensures (traced_read places i place c.loop-place-test.true c.place-item.is c.requires)))
