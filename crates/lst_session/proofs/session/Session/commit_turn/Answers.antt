use Rattle.lst_session.proofs.Spending.{spent_ready, commits_next}
use Rattle.lst_session.proofs.session.Session.commit_turn.Goals as goal

pub commit-requires-clause-pinned : goal.commit-requires-clause-pinned
commit-requires-clause-pinned c = c.requires.held.pinned.1 c.requires.held.holder.on

pub returns-clause-ready : goal.returns-clause-ready
returns-clause-ready c = spent_ready c.args.store.now c.args.self.now c.commit.new.seat c.commit.result c.requires.held c.commit.ensures.seat c.commit.ensures.spends

pub returns-clause-commits : goal.returns-clause-commits
returns-clause-commits c = let h = c.requires.held in commits_next c.args.self.now.seat.view c.commit.new.seat.view c.args.self.now.number c.commit.result c.commit.ensures.spends h.holder.host h.holder.own h.holder.turn h.wrote
