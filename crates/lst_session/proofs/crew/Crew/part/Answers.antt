use Rattle.std.proofs.Common.{List, sym, subst}
use Rattle.std.specs.List.{All}
use Rattle.lst_session.specs.declared.session.Session.{Session}
use Rattle.lst_session.specs.Parting.{IsParted}
use Rattle.lst_session.specs.Passes.{IsReady}
use Rattle.lst_session.proofs.Parting.{parted, merger_parted, all_ready}
use Rattle.lst_session.proofs.crew.Crew.part.Goals as goal

pub returns-in-Ok-part-clause-parted : goal.returns-in-Ok-part-clause-parted
returns-in-Ok-part-clause-parted c = subst (λ (passes : List Session). IsParted c.args.store.now c.args.self.seat.view passes (record { seat = c.in-Ok-part.seat; spares = c.args.self.spares })) (sym c.numbered.ensures)
    (parted c.args.store.now c.args.self.seat.view c.requires.seat.limits c.in-Ok-part.seats (record { seat = c.in-Ok-part.seat; spares = c.args.self.spares }) c.in-Ok-part.ensures.parts)

pub returns-in-Ok-part-clause-merger : goal.returns-in-Ok-part-clause-merger
returns-in-Ok-part-clause-merger c = merger_parted c.args.store.now c.args.self.seat.view c.requires.seat.limits c.in-Ok-part.seats (record { seat = c.in-Ok-part.seat; spares = c.args.self.spares }) c.in-Ok-part.ensures.parts c.requires.spares

pub returns-in-Ok-part-clause-ready : goal.returns-in-Ok-part-clause-ready
returns-in-Ok-part-clause-ready c of = subst (All (IsReady c.args.store.now)) (sym c.numbered.ensures)
    (all_ready c.args.store.now c.args.self.seat.view c.requires.seat.limits c.in-Ok-part.seats (record { seat = c.in-Ok-part.seat; spares = c.args.self.spares }) c.in-Ok-part.ensures.parts (λ s low. (of.idle s low, of.pinned s low)))
