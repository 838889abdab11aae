use Rattle.std.proofs.Common.{sym, subst}
use Rattle.lst_model.specs.declared.acts.Act.TheVariants.{Put, Set, Del}
use Rattle.lst_model.specs.declared.lines.Call.{Call}
use Rattle.lst_session.specs.Lines.{CallLeaves, BeginLeaves, AsOfLeaves, WriteLeaves, CommitLeaves}
use Rattle.lst_session.proofs.Replying.{begin_leaves, as_of_leaves, write_leaves, commit_leaves}
use Rattle.lst_session.proofs.crew.Crew.call.Goals as goal

pub returns-in-Begin-clause-session : goal.returns-in-Begin-clause-session
returns-in-Begin-clause-session c = subst (λ (call : Call). CallLeaves c.args.self.now.seat.view c.begin.new.self.seat.view c.args.s call c.begin_reply.result) (sym c.in-Begin.is)
    (subst (BeginLeaves c.args.self.now.seat.view c.begin.new.self.seat.view c.args.s) (sym c.begin_reply.ensures)
    (begin_leaves c.args.self.now.seat.view c.begin.new.self.seat.view c.args.s c.begin.result c.begin.ensures.ok c.begin.ensures.active c.begin.ensures.spent c.begin.ensures.future c.begin.ensures.err))

pub returns-in-AsOf-clause-session : goal.returns-in-AsOf-clause-session
returns-in-AsOf-clause-session c = subst (λ (call : Call). CallLeaves c.args.self.now.seat.view c.as_of.new.self.seat.view c.args.s call c.begin_reply-in-AsOf.result) (sym c.in-AsOf.is)
    (subst (AsOfLeaves c.args.self.now.seat.view c.as_of.new.self.seat.view c.args.s c.in-AsOf.time) (sym c.begin_reply-in-AsOf.ensures)
    (as_of_leaves c.args.self.now.seat.view c.as_of.new.self.seat.view c.args.s c.in-AsOf.time c.as_of.result c.as_of.ensures.ok c.as_of.ensures.active c.as_of.ensures.spent c.as_of.ensures.future c.as_of.ensures.still))

pub returns-in-Insert-clause-session : goal.returns-in-Insert-clause-session
returns-in-Insert-clause-session c = subst (λ (call : Call). CallLeaves c.args.self.now.seat.view c.insert.new.self.seat.view c.args.s call c.write_reply.result) (sym c.in-Insert.is)
    (subst (WriteLeaves c.args.self.now.seat.view c.insert.new.self.seat.view c.args.s c.in-Insert.key 1 (Put c.in-Insert.row)) (sym c.write_reply.ensures)
    (write_leaves c.args.self.now.seat.view c.insert.new.self.seat.view c.args.s c.in-Insert.key 1 (Put c.in-Insert.row) c.insert.result c.insert.ensures.ok c.insert.ensures.err))

pub returns-in-Update-clause-session : goal.returns-in-Update-clause-session
returns-in-Update-clause-session c = subst (λ (call : Call). CallLeaves c.args.self.now.seat.view c.update.new.self.seat.view c.args.s call c.write_reply-in-Update.result) (sym c.in-Update.is)
    (subst (WriteLeaves c.args.self.now.seat.view c.update.new.self.seat.view c.args.s c.in-Update.key 0 (Set c.in-Update.patch)) (sym c.write_reply-in-Update.ensures)
    (write_leaves c.args.self.now.seat.view c.update.new.self.seat.view c.args.s c.in-Update.key 0 (Set c.in-Update.patch) c.update.result c.update.ensures.ok c.update.ensures.err))

pub returns-in-Delete-clause-session : goal.returns-in-Delete-clause-session
returns-in-Delete-clause-session c = subst (λ (call : Call). CallLeaves c.args.self.now.seat.view c.delete.new.self.seat.view c.args.s call c.write_reply-in-Delete.result) (sym c.in-Delete.is)
    (subst (WriteLeaves c.args.self.now.seat.view c.delete.new.self.seat.view c.args.s c.in-Delete.key 0 Del) (sym c.write_reply-in-Delete.ensures)
    (write_leaves c.args.self.now.seat.view c.delete.new.self.seat.view c.args.s c.in-Delete.key 0 Del c.delete.result c.delete.ensures.ok c.delete.ensures.err))

pub returns-in-Commit-clause-session : goal.returns-in-Commit-clause-session
returns-in-Commit-clause-session c = subst (λ (call : Call). CallLeaves c.args.self.now.seat.view c.commit.new.self.seat.view c.args.s call c.commit_reply.result) (sym c.in-Commit.is)
    (subst (CommitLeaves c.args.self.now.seat.view c.commit.new.self.seat.view c.args.s) (sym c.commit_reply.ensures)
    (commit_leaves c.args.self.now.seat.view c.commit.new.self.seat.view c.args.s c.commit.result c.commit.ensures.committed c.commit.ensures.ended c.commit.ensures.idle c.commit.ensures.still))

pub begin-requires-clause-crew : goal.begin-requires-clause-crew
begin-requires-clause-crew c = c.requires.crew

pub begin-requires-clause-session : goal.begin-requires-clause-session
begin-requires-clause-session c = c.requires.session

pub as_of-requires-clause-crew : goal.as_of-requires-clause-crew
as_of-requires-clause-crew c = c.requires.crew

pub as_of-requires-clause-session : goal.as_of-requires-clause-session
as_of-requires-clause-session c = c.requires.session

pub insert-requires-clause-crew : goal.insert-requires-clause-crew
insert-requires-clause-crew c = c.requires.crew

pub insert-requires-clause-session : goal.insert-requires-clause-session
insert-requires-clause-session c = c.requires.session

pub update-requires-clause-crew : goal.update-requires-clause-crew
update-requires-clause-crew c = c.requires.crew

pub update-requires-clause-session : goal.update-requires-clause-session
update-requires-clause-session c = c.requires.session

pub delete-requires-clause-crew : goal.delete-requires-clause-crew
delete-requires-clause-crew c = c.requires.crew

pub delete-requires-clause-session : goal.delete-requires-clause-session
delete-requires-clause-session c = c.requires.session

pub get-requires-clause-crew : goal.get-requires-clause-crew
get-requires-clause-crew c = c.requires.crew

pub get-requires-clause-session : goal.get-requires-clause-session
get-requires-clause-session c = c.requires.session

pub commit-requires-clause-crew : goal.commit-requires-clause-crew
commit-requires-clause-crew c = c.requires.crew

pub commit-requires-clause-session : goal.commit-requires-clause-session
commit-requires-clause-session c = c.requires.session

pub abort-requires-clause-crew : goal.abort-requires-clause-crew
abort-requires-clause-crew c = c.requires.crew

pub abort-requires-clause-session : goal.abort-requires-clause-session
abort-requires-clause-session c = c.requires.session

pub returns-in-Begin-clause-crew : goal.returns-in-Begin-clause-crew
returns-in-Begin-clause-crew c = c.begin.ensures.crew

pub returns-in-AsOf-clause-crew : goal.returns-in-AsOf-clause-crew
returns-in-AsOf-clause-crew c = c.as_of.ensures.crew

pub returns-in-Insert-clause-crew : goal.returns-in-Insert-clause-crew
returns-in-Insert-clause-crew c = c.insert.ensures.crew

pub returns-in-Update-clause-crew : goal.returns-in-Update-clause-crew
returns-in-Update-clause-crew c = c.update.ensures.crew

pub returns-in-Delete-clause-crew : goal.returns-in-Delete-clause-crew
returns-in-Delete-clause-crew c = c.delete.ensures.crew

pub returns-in-Get-clause-crew : goal.returns-in-Get-clause-crew
returns-in-Get-clause-crew c = c.get.ensures.crew

pub returns-in-Commit-clause-crew : goal.returns-in-Commit-clause-crew
returns-in-Commit-clause-crew c = c.commit.ensures.crew

pub returns-in-Abort-clause-crew : goal.returns-in-Abort-clause-crew
returns-in-Abort-clause-crew c = c.abort.ensures.crew
