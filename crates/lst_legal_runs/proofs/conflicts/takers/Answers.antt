use Rattle.std.proofs.Common.{take, sym, subst}
use Rattle.lst_legal_runs.specs.Places.{run_at}
use Rattle.lst_legal_runs.specs.Conflicts.{AreTakers}
use Rattle.lst_legal_runs.proofs.Accepting.{takers_none}
use Rattle.lst_legal_runs.proofs.Placing.{run_more}
use Rattle.lst_legal_runs.proofs.conflicts.takers.Goals as goal

pub loop-place-init : goal.loop-place-init
loop-place-init c = takers_none c.new-marks.result c.new-marks.ensures

pub loop-place-preserved : goal.loop-place-preserved
loop-place-preserved c =
    let places = c.args.places.now in
    let i = c.loop-place.place-index in
    let place = c.place-item.result in
    subst (AreTakers c.note_taker.new.marks) (sym (run_more places i place c.loop-place-test.true c.place-item.is))
    (c.in_ok-note_taker.ensures (run_at (take i places)) c.loop-place.invariant)
