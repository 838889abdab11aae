use Rattle.std.proofs.Common.{sym, subst}
use Rattle.lst_model.specs.declared.acts.Act.TheVariants.{Put, Set, Del}
use Rattle.lst_model.specs.declared.lines.Call.{Call}
use Rattle.lst_session.specs.Lines.{SessionLeaves, BeginLeaves, AsOfLeaves, WriteLeaves}
use Rattle.lst_session.proofs.Replying.{begin_leaves, as_of_leaves, write_leaves}
use Rattle.lst_session.proofs.Keeping.{begin_called, as_of_called, write_called, abort_called}
use Rattle.lst_session.proofs.Waiting.{get_called}
use Rattle.lst_session.proofs.session.Session.answer.Goals as goal

pub returns-in-Begin-clause-called : goal.returns-in-Begin-clause-called
returns-in-Begin-clause-called c = begin_called c.args.self.now.seat.view c.begin.new.self.seat.view c.args.self.now.number c.begin.result c.begin.ensures.ok c.begin.ensures.err

pub returns-in-AsOf-clause-called : goal.returns-in-AsOf-clause-called
returns-in-AsOf-clause-called c = as_of_called c.args.self.now.seat.view c.as_of.new.self.seat.view c.args.self.now.number c.in-AsOf.time c.as_of.result c.as_of.ensures.ok c.as_of.ensures.future c.as_of.ensures.still

pub returns-in-Get-clause-called : goal.returns-in-Get-clause-called
returns-in-Get-clause-called c = get_called c.args.self.now.seat.view c.get.new.self.seat.view c.args.self.now.number c.in-Get.key c.get.result c.get.ensures.ok c.get.ensures.err

pub returns-in-Insert-clause-called : goal.returns-in-Insert-clause-called
returns-in-Insert-clause-called c = write_called c.args.self.now.seat.view c.insert.new.self.seat.view c.args.self.now.number c.in-Insert.key 1 (Put c.in-Insert.row) c.insert.result c.insert.ensures.ok c.insert.ensures.err

pub returns-in-Update-clause-called : goal.returns-in-Update-clause-called
returns-in-Update-clause-called c = write_called c.args.self.now.seat.view c.update.new.self.seat.view c.args.self.now.number c.in-Update.key 0 (Set c.in-Update.patch) c.update.result c.update.ensures.ok c.update.ensures.err

pub returns-in-Delete-clause-called : goal.returns-in-Delete-clause-called
returns-in-Delete-clause-called c = write_called c.args.self.now.seat.view c.delete.new.self.seat.view c.args.self.now.number c.in-Delete.key 0 Del c.delete.result c.delete.ensures.ok c.delete.ensures.err

pub returns-in-Abort-clause-called : goal.returns-in-Abort-clause-called
returns-in-Abort-clause-called c = abort_called c.args.self.now.seat.view c.abort.new.self.seat.view c.args.self.now.number c.abort.result c.abort.ensures.ok c.abort.ensures.err

pub returns-in-Begin-clause-leaves : goal.returns-in-Begin-clause-leaves
returns-in-Begin-clause-leaves c = subst (λ (call : Call). SessionLeaves c.args.self.now.seat.view c.begin.new.self.seat.view c.args.self.now.number call c.begin_reply.result) (sym c.in-Begin.is)
    (subst (BeginLeaves c.args.self.now.seat.view c.begin.new.self.seat.view c.args.self.now.number) (sym c.begin_reply.ensures)
    (begin_leaves c.args.self.now.seat.view c.begin.new.self.seat.view c.args.self.now.number c.begin.result c.begin.ensures.ok c.begin.ensures.active c.begin.ensures.spent c.begin.ensures.future c.begin.ensures.err))

pub returns-in-AsOf-clause-leaves : goal.returns-in-AsOf-clause-leaves
returns-in-AsOf-clause-leaves c = subst (λ (call : Call). SessionLeaves c.args.self.now.seat.view c.as_of.new.self.seat.view c.args.self.now.number call c.begin_reply-in-AsOf.result) (sym c.in-AsOf.is)
    (subst (AsOfLeaves c.args.self.now.seat.view c.as_of.new.self.seat.view c.args.self.now.number c.in-AsOf.time) (sym c.begin_reply-in-AsOf.ensures)
    (as_of_leaves c.args.self.now.seat.view c.as_of.new.self.seat.view c.args.self.now.number c.in-AsOf.time c.as_of.result c.as_of.ensures.ok c.as_of.ensures.active c.as_of.ensures.spent c.as_of.ensures.future c.as_of.ensures.still))

pub returns-in-Insert-clause-leaves : goal.returns-in-Insert-clause-leaves
returns-in-Insert-clause-leaves c = subst (λ (call : Call). SessionLeaves c.args.self.now.seat.view c.insert.new.self.seat.view c.args.self.now.number call c.write_reply.result) (sym c.in-Insert.is)
    (subst (WriteLeaves c.args.self.now.seat.view c.insert.new.self.seat.view c.args.self.now.number c.in-Insert.key 1 (Put c.in-Insert.row)) (sym c.write_reply.ensures)
    (write_leaves c.args.self.now.seat.view c.insert.new.self.seat.view c.args.self.now.number c.in-Insert.key 1 (Put c.in-Insert.row) c.insert.result c.insert.ensures.ok c.insert.ensures.err))

pub returns-in-Update-clause-leaves : goal.returns-in-Update-clause-leaves
returns-in-Update-clause-leaves c = subst (λ (call : Call). SessionLeaves c.args.self.now.seat.view c.update.new.self.seat.view c.args.self.now.number call c.write_reply-in-Update.result) (sym c.in-Update.is)
    (subst (WriteLeaves c.args.self.now.seat.view c.update.new.self.seat.view c.args.self.now.number c.in-Update.key 0 (Set c.in-Update.patch)) (sym c.write_reply-in-Update.ensures)
    (write_leaves c.args.self.now.seat.view c.update.new.self.seat.view c.args.self.now.number c.in-Update.key 0 (Set c.in-Update.patch) c.update.result c.update.ensures.ok c.update.ensures.err))

pub returns-in-Delete-clause-leaves : goal.returns-in-Delete-clause-leaves
returns-in-Delete-clause-leaves c = subst (λ (call : Call). SessionLeaves c.args.self.now.seat.view c.delete.new.self.seat.view c.args.self.now.number call c.write_reply-in-Delete.result) (sym c.in-Delete.is)
    (subst (WriteLeaves c.args.self.now.seat.view c.delete.new.self.seat.view c.args.self.now.number c.in-Delete.key 0 Del) (sym c.write_reply-in-Delete.ensures)
    (write_leaves c.args.self.now.seat.view c.delete.new.self.seat.view c.args.self.now.number c.in-Delete.key 0 Del c.delete.result c.delete.ensures.ok c.delete.ensures.err))
