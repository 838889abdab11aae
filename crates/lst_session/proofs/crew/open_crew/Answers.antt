use Rattle.lst_session.proofs.Opening.{opened_crew, opened_tells, opened_told}
use Rattle.lst_session.proofs.crew.open_crew.Goals as goal

pub returns-clause-crew : goal.returns-clause-crew
returns-clause-crew c = opened_crew c.in_ok-store.store (record { seat = c.in_ok-store.seat; spares = c.opening_spares-spares.result }) c.args.layout.now.limits c.in_ok-store.ensures.seat c.in_ok-store.ensures.crew c.opening_spares-spares.ensures.crew

pub returns-clause-tells : goal.returns-clause-tells
returns-clause-tells c = opened_tells c.args.layout.now.limits c.in_ok-store.seat.view c.in_ok-store.ensures.crew

pub returns-clause-opening : goal.returns-clause-opening
returns-clause-opening c = opened_told c.args.layout.now.limits c.in_ok-store.seat.view c.args.layout.now.valid c.in_ok-store.ensures.crew
