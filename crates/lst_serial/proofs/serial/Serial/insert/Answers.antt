use Rattle.std.proofs.Common.{◌≡◌, subst}
use Rattle.lst_model.specs.declared.acts.Act.TheVariants.{Put}
use Rattle.lst_session.specs.declared.kinds.WriteRefusal.{WriteRefusal}
use Rattle.lst_session.specs.declared.session.Session.{Session}
use Rattle.lst_session.specs.Calls.{Refuses, Cause}
use Rattle.lst_serial.proofs.serial.Serial.insert.Goals as goal

pub returns-in-Err-insert-clause-refused : goal.returns-in-Err-insert-clause-refused
returns-in-Err-insert-clause-refused c cause is =
    let e : c.in-Err-insert.cause ≡ cause = cc in
    subst (λ (session : Session). Refuses session.seat.view c.insert.new.self.seat.view session.number c.args.key 1 × Cause session.seat.view c.insert.new.self.seat.view session.number c.args.key (Put c.args.row.now) cause) c.join.ensures.session
    (subst (λ (x : WriteRefusal). Refuses c.join.new.self.session.seat.view c.insert.new.self.seat.view c.join.new.self.session.number c.args.key 1 × Cause c.join.new.self.session.seat.view c.insert.new.self.seat.view c.join.new.self.session.number c.args.key (Put c.args.row.now) x) e c.in-Err-insert.ensures.err)
