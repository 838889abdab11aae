use Rattle.std.proofs.Common.{take, sym, subst}
use Rattle.lst_legal_runs.specs.Places.{run_at}
use Rattle.lst_legal_runs.specs.Conflicts.{AreAccepted}
use Rattle.lst_legal_runs.proofs.Accepting.{accepted_none}
use Rattle.lst_legal_runs.proofs.Placing.{run_more, traced_read}
use Rattle.lst_legal_runs.proofs.conflicts.accepted_writes.Goals as goal

pub loop-place-init : goal.loop-place-init
loop-place-init c = accepted_none c.new-marks.result c.new-marks.ensures

pub loop-place-preserved : goal.loop-place-preserved
loop-place-preserved c =
    let places = c.args.places.now in
    let i = c.loop-place.place-index in
    let place = c.place-item.result in
    subst (AreAccepted c.note_accepted.new.marks) (sym (run_more places i place c.loop-place-test.true c.place-item.is))
    (c.in_ok-note_accepted.ensures (run_at (take i places)) (traced_read places i place c.loop-place-test.true c.place-item.is c.requires) c.loop-place.invariant)
