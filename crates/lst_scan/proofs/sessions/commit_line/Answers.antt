use Rattle.std.proofs.Common.{sym, subst}
use Rattle.lst_model.specs.declared.replies.Reply.{Reply}
use Rattle.lst_scan.specs.Sessions.{EndLeaves}
use Rattle.lst_scan.proofs.Sessioning.{commit_called, commit_leaves}
use Rattle.lst_scan.proofs.sessions.commit_line.Goals as goal

pub returns-clause-called : goal.returns-clause-called
returns-clause-called g c = commit_called c.args.session.now.seat.view c.commit.new.self.seat.view c.args.session.now.number c.commit.result c.commit.ensures.ok c.commit.ensures.still

pub returns-clause-leaves : goal.returns-clause-leaves
returns-clause-leaves g c = let s = c.args.session.now.number in let v = c.args.session.now.seat.view in let w = c.commit.new.self.seat.view in let e = c.commit.ensures in
    subst (λ (reply : Reply). EndLeaves v w s reply) (sym c.commit_reply.ensures) (commit_leaves v w s c.commit.result e.ok e.idle e.still)
