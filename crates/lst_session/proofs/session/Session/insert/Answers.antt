use Rattle.std.proofs.Common.{List, OnOk, IfErr, refl, subst}
use Rattle.lst_model.specs.declared.acts.Act.TheVariants.{Put}
use Rattle.lst_model.specs.Cells.{Cell}
use Rattle.lst_session.specs.Traces.{Inserts}
use Rattle.lst_session.specs.Calls.{Accepts, Refuses, Cause}
use Rattle.lst_session.proofs.Answering.{ready, inserted, not_inserted, inserted_idle, inserted_hosted}
use Rattle.lst_session.proofs.Pinned.{write_pinned}
use Rattle.lst_session.proofs.session.Session.insert.Goals as goal

traced : (c : goal.After-insert) → Inserts c.args.self.now.seat.view c.insert.new.seat.view c.args.self.now.number c.args.key (Put c.args.row.now) c.insert.result
traced c = subst (λ (x : List Cell). Inserts c.args.self.now.seat.view c.insert.new.seat.view c.args.self.now.number c.args.key (Put x) c.insert.result) c.copied.ensures c.insert.ensures.inserts

done : (c : goal.After-insert) → OnOk c.insert.result (Accepts c.args.self.now.seat.view c.insert.new.seat.view c.args.self.now.number c.args.key 1 (Put c.args.row.now))
done c = inserted c.args.self.now.seat.view c.insert.new.seat.view c.args.self.now.number c.args.key (Put c.args.row.now) c.consider.ensures c.requires.ready.host c.requires.ready.own c.insert.result (traced c)

refused : (c : goal.After-insert) → IfErr c.insert.result (λ refusal. Refuses c.args.self.now.seat.view c.insert.new.seat.view c.args.self.now.number c.args.key 1 × Cause c.args.self.now.seat.view c.insert.new.seat.view c.args.self.now.number c.args.key (Put c.args.row.now) refusal)
refused c = not_inserted c.args.self.now.seat.view c.insert.new.seat.view c.args.self.now.number c.args.key (Put c.args.row.now) c.consider.ensures c.requires.ready.host c.requires.ready.own refl c.insert.result (traced c)

pub returns-clause-ready : goal.returns-clause-ready
returns-clause-ready c = ready c.args.store.now c.args.self.now c.insert.new.seat c.requires.ready c.insert.ensures.seat
    (inserted_hosted c.args.self.now.seat.view c.insert.new.seat.view c.args.self.now.number c.args.key (Put c.args.row.now) c.consider.ensures c.requires.ready.host c.requires.ready.own refl c.insert.result (traced c))
    (inserted_idle c.args.self.now.seat.view c.insert.new.seat.view c.args.self.now.number c.args.key (Put c.args.row.now) c.consider.ensures c.requires.ready.host c.requires.ready.own c.insert.result (traced c) c.requires.ready.idle)
    (write_pinned c.args.self.now.seat.view c.insert.new.seat.view c.args.self.now.number c.requires.ready.pinned c.args.key 1 (Put c.args.row.now) c.insert.result (done c) (refused c))

pub returns-clause-ok : goal.returns-clause-ok
returns-clause-ok c = done c

pub returns-clause-err : goal.returns-clause-err
returns-clause-err c = refused c
