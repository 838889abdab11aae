use Rattle.std.proofs.Common.{◌≡◌, subst, sym}
use Rattle.lst_model.specs.declared.acts.Act.TheVariants.{Set}
use Rattle.lst_model.specs.Lines.{IsPatch}
use Rattle.lst_session.specs.declared.kinds.WriteRefusal.{WriteRefusal}
use Rattle.lst_session.specs.declared.session.Session.{Session}
use Rattle.lst_session.specs.Calls.{Accepts, Refuses, Cause}
use Rattle.lst_session.specs.Passes.{IsReady}
use Rattle.lst_serial.proofs.serial.Serial.update.Goals as goal

pub update-requires-clause-ready : goal.update-requires-clause-ready
update-requires-clause-ready c = subst (IsReady c.args.store.now) (sym c.join.ensures.session) c.requires.ready

pub update-requires-clause-patch : goal.update-requires-clause-patch
update-requires-clause-patch c = subst (λ (session : Session). IsPatch session.seat.view.limits.columns c.args.patch.now) (sym c.join.ensures.session) c.requires.patch

pub returns-in-Err-clause-ready : goal.returns-in-Err-clause-ready
returns-in-Err-clause-ready c = subst (IsReady c.args.store.now) (sym c.join.ensures.session) c.requires.ready

pub returns-in-Ok-clause-ready : goal.returns-in-Ok-clause-ready
returns-in-Ok-clause-ready c = c.update.ensures.ready

pub returns-in-Ok-clause-ok : goal.returns-in-Ok-clause-ok
returns-in-Ok-clause-ok c = subst (λ (session : Session). Accepts session.seat.view c.update.new.self.seat.view session.number c.args.key 0 (Set c.args.patch.now)) c.join.ensures.session c.in-Ok.ensures.ok

pub returns-in-Err-update-clause-ready : goal.returns-in-Err-update-clause-ready
returns-in-Err-update-clause-ready c = c.update.ensures.ready

pub returns-in-Err-update-clause-refused : goal.returns-in-Err-update-clause-refused
returns-in-Err-update-clause-refused c cause is =
    let e : c.in-Err-update.cause ≡ cause = cc in
    subst (λ (session : Session). Refuses session.seat.view c.update.new.self.seat.view session.number c.args.key 0 × Cause session.seat.view c.update.new.self.seat.view session.number c.args.key (Set c.args.patch.now) cause) c.join.ensures.session
    (subst (λ (x : WriteRefusal). Refuses c.join.new.self.session.seat.view c.update.new.self.seat.view c.join.new.self.session.number c.args.key 0 × Cause c.join.new.self.session.seat.view c.update.new.self.seat.view c.join.new.self.session.number c.args.key (Set c.args.patch.now) x) e c.in-Err-update.ensures.err)
