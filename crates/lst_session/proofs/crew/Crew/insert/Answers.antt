use Rattle.std.proofs.Common.{List, OnOk, IfErr, refl, subst}
use Rattle.lst_model.specs.Cells.{Cell}
use Rattle.lst_model.specs.declared.acts.Act.TheVariants.{Put}
use Rattle.lst_session.specs.Traces.{Inserts}
use Rattle.lst_session.specs.Calls.{Accepts, Refuses, Cause}
use Rattle.lst_session.specs.Crews.{TellsState}
use Rattle.lst_session.proofs.Crewed.{crew_view, told_by}
use Rattle.lst_session.proofs.CrewAnswering.{InsertIs, insert_is}
use Rattle.lst_session.proofs.Keeping.{crew_on, write_called, never_latched}
use Rattle.lst_model.specs.declared.lines.Call.TheVariants as lines
use Rattle.lst_session.specs.Replies.{write_reply}
use Rattle.lst_session.proofs.Paged.{write_paged}
use Rattle.lst_session.proofs.Pinned.{write_pinned}
use Rattle.lst_session.proofs.Promising.{inserted, not_inserted, inserted_idle}
use Rattle.lst_session.proofs.crew.Crew.insert.Goals as goal

traced : (c : goal.After-insert) → Inserts c.args.self.now.seat.view c.insert.new.seat.view c.args.s c.args.key (Put c.args.row.now) c.insert.result
traced c = subst (λ (row : List Cell). Inserts c.args.self.now.seat.view c.insert.new.seat.view c.args.s c.args.key (Put row) c.insert.result) c.copied.ensures c.insert.ensures.inserts

done : (c : goal.After-insert) → OnOk c.insert.result (Accepts c.args.self.now.seat.view c.insert.new.seat.view c.args.s c.args.key 1 (Put c.args.row.now))
done c = inserted c.args.self.now.seat.view c.insert.new.seat.view c.args.s c.args.key (c.requires.crew.hosted c.args.s c.requires.session) c.consider.ensures c.requires.session (Put c.args.row.now) c.insert.result (traced c)

refused : (c : goal.After-insert) → IfErr c.insert.result (λ refusal. Refuses c.args.self.now.seat.view c.insert.new.seat.view c.args.s c.args.key 1 × Cause c.args.self.now.seat.view c.insert.new.seat.view c.args.s c.args.key (Put c.args.row.now) refusal)
refused c = not_inserted c.args.self.now.seat.view c.insert.new.seat.view c.args.s c.args.key (c.requires.crew.hosted c.args.s c.requires.session) c.consider.ensures c.requires.session (Put c.args.row.now) c.insert.result refl (traced c)

answered : (c : goal.After-insert) → TellsState c.args.self.now.seat.view → InsertIs c.args.self.now.seat.view c.insert.new.seat.view c.args.s c.args.key (Put c.args.row.now) c.insert.result
answered c tells = insert_is c.args.self.now.seat.view (crew_view c.args.store.now c.args.self.now c.requires.crew tells) c.args.s c.args.key c.requires.session (Put c.args.row.now) c.consider.ensures c.insert.new.seat.view (λ l store s t key. refl) c.insert.result (traced c)

pub returns-clause-crew : goal.returns-clause-crew
returns-clause-crew c = crew_on c.args.store.now c.args.self.now c.insert.new.seat c.args.s c.requires.crew c.insert.ensures.seat c.requires.session
    (write_called c.args.self.now.seat.view c.insert.new.seat.view c.args.s c.args.key 1 (Put c.args.row.now) c.insert.result (done c) (refused c))
    (inserted_idle c.args.self.now.seat.view c.insert.new.seat.view c.args.s c.args.key (c.requires.crew.hosted c.args.s c.requires.session) c.consider.ensures c.requires.session (Put c.args.row.now) c.insert.result (traced c) (c.requires.crew.idle c.args.s c.requires.session))
    (write_pinned c.args.self.now.seat.view c.insert.new.seat.view c.args.s (c.requires.crew.pinned c.args.s c.requires.session) c.args.key 1 (Put c.args.row.now) c.insert.result (done c) (refused c))

pub returns-clause-machine : goal.returns-clause-machine
returns-clause-machine c tells = let is = answered c tells in told_by c.insert.new.seat.view
    (write_paged c.args.self.now.seat.view c.insert.new.seat.view c.args.s c.requires.session c.args.key 1 (Put c.args.row.now) (lines.Insert c.args.key c.args.row.now) refl (write_reply c.insert.result) c.insert.result (done c) (refused c))
    (is.crew, record { reply = is.reply; next = is.next; limits = is.limits })

pub returns-clause-ok : goal.returns-clause-ok
returns-clause-ok c = done c

pub returns-clause-err : goal.returns-clause-err
returns-clause-err c = refused c

pub returns-clause-never : goal.returns-clause-never
returns-clause-never c = never_latched c.args.store.now c.args.self.now c.insert.new.seat.view c.args.s c.args.key 1 (Put c.args.row.now) c.insert.result c.requires.crew (refused c)
