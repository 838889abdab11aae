use Rattle.std.proofs.Common.{◌≡◌, take}
use Rattle.lst_machine.specs.Machine.{state_after}
use Rattle.lst_session.specs.Crews.{IsCrewOf, store_told, state_told}
use Rattle.lst_redo.specs.Recoveries.{IsMaking}
use Rattle.lst_redo.specs.Scripts.{lines_of_writes}
use Rattle.lst_redo.proofs.again.make_all.Given as goal

abbrev pub invariant-loop-write : goal.invariant-loop-write
invariant-loop-write l = IsCrewOf l.store l.crew × (l.crew.seat.view.limits ≡ l.fn.crew.seat.view.limits) × IsMaking l.crew.seat.view (store_told l.fn.crew.seat.view) l.commit (take l.write-index l.commit.writes)
    × (state_told l.crew.seat.view ≡ state_after l.fn.crew.seat.view.limits (state_told l.fn.crew.seat.view) (lines_of_writes l.commit.session (take l.write-index l.commit.writes)))
