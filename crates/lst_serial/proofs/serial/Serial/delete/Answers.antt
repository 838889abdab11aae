use Rattle.std.proofs.Common.{◌≡◌, subst, sym}
use Rattle.lst_model.specs.declared.acts.Act.TheVariants.{Del}
use Rattle.lst_session.specs.declared.kinds.WriteRefusal.{WriteRefusal}
use Rattle.lst_session.specs.declared.session.Session.{Session}
use Rattle.lst_session.specs.Calls.{Accepts, Refuses, Cause}
use Rattle.lst_session.specs.Passes.{IsReady}
use Rattle.lst_serial.proofs.serial.Serial.delete.Goals as goal

pub delete-requires : goal.delete-requires
delete-requires c = record { ready = subst (IsReady c.args.store.now) (sym c.join.ensures.session) c.requires.ready }

pub returns-in-Err-clause-ready : goal.returns-in-Err-clause-ready
returns-in-Err-clause-ready c = subst (IsReady c.args.store.now) (sym c.join.ensures.session) c.requires.ready

pub returns-in-Ok-clause-ready : goal.returns-in-Ok-clause-ready
returns-in-Ok-clause-ready c = c.delete.ensures.ready

pub returns-in-Ok-clause-ok : goal.returns-in-Ok-clause-ok
returns-in-Ok-clause-ok c = subst (λ (session : Session). Accepts session.seat.view c.delete.new.self.seat.view session.number c.args.key 0 Del) c.join.ensures.session c.in-Ok.ensures.ok

pub returns-in-Err-delete-clause-ready : goal.returns-in-Err-delete-clause-ready
returns-in-Err-delete-clause-ready c = c.delete.ensures.ready

pub returns-in-Err-delete-clause-refused : goal.returns-in-Err-delete-clause-refused
returns-in-Err-delete-clause-refused c cause is =
    let e : c.in-Err-delete.cause ≡ cause = cc in
    subst (λ (session : Session). Refuses session.seat.view c.delete.new.self.seat.view session.number c.args.key 0 × Cause session.seat.view c.delete.new.self.seat.view session.number c.args.key Del cause) c.join.ensures.session
    (subst (λ (x : WriteRefusal). Refuses c.join.new.self.session.seat.view c.delete.new.self.seat.view c.join.new.self.session.number c.args.key 0 × Cause c.join.new.self.session.seat.view c.delete.new.self.seat.view c.join.new.self.session.number c.args.key Del x) e c.in-Err-delete.ensures.err)
