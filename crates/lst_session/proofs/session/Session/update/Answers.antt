use Rattle.std.proofs.Common.{List, Option, OnOk, IfErr, refl, subst}
use Rattle.lst_model.specs.declared.acts.Act.TheVariants.{Set}
use Rattle.lst_model.specs.Cells.{Cell}
use Rattle.lst_session.specs.Traces.{Changes}
use Rattle.lst_session.specs.Calls.{Accepts, Refuses, Cause}
use Rattle.lst_session.proofs.Answering.{ready, changed, not_changed, changed_idle, changed_hosted}
use Rattle.lst_session.proofs.Pinned.{write_pinned}
use Rattle.lst_session.proofs.session.Session.update.Goals as goal

traced : (c : goal.After-change) → Changes c.args.self.now.seat.view c.change.new.seat.view c.args.self.now.number c.args.key (Set c.args.patch.now) c.change.result
traced c = subst (λ (x : List (Option Cell)). Changes c.args.self.now.seat.view c.change.new.seat.view c.args.self.now.number c.args.key (Set x) c.change.result) c.copied.ensures c.change.ensures.changes

done : (c : goal.After-change) → OnOk c.change.result (Accepts c.args.self.now.seat.view c.change.new.seat.view c.args.self.now.number c.args.key 0 (Set c.args.patch.now))
done c = changed c.args.self.now.seat.view c.change.new.seat.view c.args.self.now.number c.args.key (Set c.args.patch.now) c.consider.ensures c.requires.ready.host c.requires.ready.own c.change.result (traced c)

refused : (c : goal.After-change) → IfErr c.change.result (λ refusal. Refuses c.args.self.now.seat.view c.change.new.seat.view c.args.self.now.number c.args.key 0 × Cause c.args.self.now.seat.view c.change.new.seat.view c.args.self.now.number c.args.key (Set c.args.patch.now) refusal)
refused c = not_changed c.args.self.now.seat.view c.change.new.seat.view c.args.self.now.number c.args.key (Set c.args.patch.now) c.consider.ensures c.requires.ready.host c.requires.ready.own refl c.change.result (traced c)

pub returns-clause-ready : goal.returns-clause-ready
returns-clause-ready c = ready c.args.store.now c.args.self.now c.change.new.seat c.requires.ready c.change.ensures.seat
    (changed_hosted c.args.self.now.seat.view c.change.new.seat.view c.args.self.now.number c.args.key (Set c.args.patch.now) c.consider.ensures c.requires.ready.host c.requires.ready.own refl c.change.result (traced c))
    (changed_idle c.args.self.now.seat.view c.change.new.seat.view c.args.self.now.number c.args.key (Set c.args.patch.now) c.consider.ensures c.requires.ready.host c.requires.ready.own c.change.result (traced c) c.requires.ready.idle)
    (write_pinned c.args.self.now.seat.view c.change.new.seat.view c.args.self.now.number c.requires.ready.pinned c.args.key 0 (Set c.args.patch.now) c.change.result (done c) (refused c))

pub returns-clause-ok : goal.returns-clause-ok
returns-clause-ok c = done c

pub returns-clause-err : goal.returns-clause-err
returns-clause-err c = refused c
