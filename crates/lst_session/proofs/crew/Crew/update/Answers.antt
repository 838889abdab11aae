use Rattle.std.proofs.Common.{List, Option, OnOk, IfErr, refl, subst}
use Rattle.lst_model.specs.Cells.{Cell}
use Rattle.lst_model.specs.declared.acts.Act.TheVariants.{Set}
use Rattle.lst_session.specs.Traces.{Changes}
use Rattle.lst_session.specs.Calls.{Accepts, Refuses, Cause}
use Rattle.lst_session.specs.Crews.{TellsState}
use Rattle.lst_session.proofs.Crewed.{crew_view, told_by}
use Rattle.lst_session.proofs.CrewAnswering.{ChangeIs, change_is}
use Rattle.lst_session.proofs.Keeping.{crew_on, write_called, never_latched}
use Rattle.lst_model.specs.declared.lines.Call.TheVariants as lines
use Rattle.lst_session.specs.Replies.{write_reply}
use Rattle.lst_session.proofs.Paged.{write_paged}
use Rattle.lst_session.proofs.Pinned.{write_pinned}
use Rattle.lst_session.proofs.Promising.{changed, not_changed, changed_idle}
use Rattle.lst_session.proofs.crew.Crew.update.Goals as goal

traced : (c : goal.After-change) → Changes c.args.self.now.seat.view c.change.new.seat.view c.args.s c.args.key (Set c.args.patch.now) c.change.result
traced c = subst (λ (patch : List (Option Cell)). Changes c.args.self.now.seat.view c.change.new.seat.view c.args.s c.args.key (Set patch) c.change.result) c.copied.ensures c.change.ensures.changes

done : (c : goal.After-change) → OnOk c.change.result (Accepts c.args.self.now.seat.view c.change.new.seat.view c.args.s c.args.key 0 (Set c.args.patch.now))
done c = changed c.args.self.now.seat.view c.change.new.seat.view c.args.s c.args.key (c.requires.crew.hosted c.args.s c.requires.session) c.consider.ensures c.requires.session (Set c.args.patch.now) c.change.result (traced c)

refused : (c : goal.After-change) → IfErr c.change.result (λ refusal. Refuses c.args.self.now.seat.view c.change.new.seat.view c.args.s c.args.key 0 × Cause c.args.self.now.seat.view c.change.new.seat.view c.args.s c.args.key (Set c.args.patch.now) refusal)
refused c = not_changed c.args.self.now.seat.view c.change.new.seat.view c.args.s c.args.key (c.requires.crew.hosted c.args.s c.requires.session) c.consider.ensures c.requires.session (Set c.args.patch.now) c.change.result refl (traced c)

answered : (c : goal.After-change) → TellsState c.args.self.now.seat.view → ChangeIs c.args.self.now.seat.view c.change.new.seat.view c.args.s c.args.key (Set c.args.patch.now) c.change.result
answered c tells = change_is c.args.self.now.seat.view (crew_view c.args.store.now c.args.self.now c.requires.crew tells) c.args.s c.args.key c.requires.session (Set c.args.patch.now) c.consider.ensures c.change.new.seat.view (λ l store s t key. refl) c.change.result (traced c)

pub returns-clause-crew : goal.returns-clause-crew
returns-clause-crew c = crew_on c.args.store.now c.args.self.now c.change.new.seat c.args.s c.requires.crew c.change.ensures.seat c.requires.session
    (write_called c.args.self.now.seat.view c.change.new.seat.view c.args.s c.args.key 0 (Set c.args.patch.now) c.change.result (done c) (refused c))
    (changed_idle c.args.self.now.seat.view c.change.new.seat.view c.args.s c.args.key (c.requires.crew.hosted c.args.s c.requires.session) c.consider.ensures c.requires.session (Set c.args.patch.now) c.change.result (traced c) (c.requires.crew.idle c.args.s c.requires.session))
    (write_pinned c.args.self.now.seat.view c.change.new.seat.view c.args.s (c.requires.crew.pinned c.args.s c.requires.session) c.args.key 0 (Set c.args.patch.now) c.change.result (done c) (refused c))

pub returns-clause-machine : goal.returns-clause-machine
returns-clause-machine c tells = let is = answered c tells in told_by c.change.new.seat.view
    (write_paged c.args.self.now.seat.view c.change.new.seat.view c.args.s c.requires.session c.args.key 0 (Set c.args.patch.now) (lines.Update c.args.key c.args.patch.now) refl (write_reply c.change.result) c.change.result (done c) (refused c))
    (is.crew, record { reply = is.reply; next = is.next; limits = is.limits })

pub returns-clause-ok : goal.returns-clause-ok
returns-clause-ok c = done c

pub returns-clause-err : goal.returns-clause-err
returns-clause-err c = refused c

pub returns-clause-never : goal.returns-clause-never
returns-clause-never c = never_latched c.args.store.now c.args.self.now c.change.new.seat.view c.args.s c.args.key 0 (Set c.args.patch.now) c.change.result c.requires.crew (refused c)
