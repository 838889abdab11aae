use Rattle.std.proofs.Common.{ℕ, ◌<◌, ap, subst, arith}
use Rattle.std.specs.Prelude.{Result}
use Rattle.lst_layout.specs.declared.layout.Layout.{Layout}
use Rattle.lst_layout.specs.declared.limits.Limits.{Limits}
use Rattle.lst_model.specs.declared.lines.Call.TheVariants.{Begin, Commit as CommitCall}
use Rattle.lst_model.specs.declared.replies.Cause.TheVariants.{Idle as IdleCause}
use Rattle.lst_txn.specs.declared.begins.BeginFault.{BeginFault}
use Rattle.lst_txn.specs.declared.ends.Idle.{Idle}
use Rattle.lst_session.specs.declared.kinds.Outcome.{Outcome}
use Rattle.lst_session.specs.Crews.{Answers}
use Rattle.lst_session.specs.Replies.{begin_reply, commit_reply}
use Rattle.lst_redo.proofs.Making.{began, is_committed, ran_again, met_none, full_meets, on_err}
use Rattle.lst_redo.proofs.Scripts.{commit_told}
use Rattle.lst_redo.proofs.again.run_again.Goals as goal

pub make_all-requires-clause-begun : goal.make_all-requires-clause-begun
make_all-requires-clause-begun c =
    let v = c.args.crew.now.seat.view in
    let w = c.begin.new.self.seat.view in
    let s : ℕ = c.args.commit.now.session in
    let low : s < v.limits.sessions = omega (arith, c.if-commit-layout.false, ap (λ (l : Limits). l.sessions) c.requires.crew.seat_of.limits, ap (λ (l : Layout). l.limits.sessions) c.layout.ensures) in
    let told = c.begin.ensures.machine c.requires.may.tells in
    let answers = subst (λ (r : Result ℕ BeginFault). Answers v w s Begin (begin_reply r)) c.in-Ok.is told.1 in
    began c.commits_run_again.ensures.begins v w c.args.commit.now c.in-Ok.field-0 c.requires.may low told.0 answers

pub returns-in_err-make_all-clause-full : goal.returns-in_err-make_all-clause-full
returns-in_err-make_all-clause-full c =
    let v = c.args.crew.now.seat.view in
    let w = c.begin.new.self.seat.view in
    let told = c.begin.ensures.machine c.requires.may.tells in
    on_err c.from_residual.result (full_meets v w c.args.commit.now (begin_reply c.begin.result) told.1 c.in_err-make_all.ensures.full)

pub unreachable-requires : goal.unreachable-requires
unreachable-requires c =
    let v = c.make_all.new.crew.seat.view in
    let w = c.commit.new.self.seat.view in
    let made = c.in_ok-make_all.ensures.made in
    let answers = subst (λ (r : Result Outcome Idle). Answers v w c.args.commit.now.session CommitCall (commit_reply r)) c.in_default-commit.is (c.commit.ensures.machine made.tells).1 in
    is_committed c.commits_run_again.ensures.commits v w _ c.args.commit.now c.args.crew.now.seat.view.limits.columns IdleCause made c.requires.may.writes answers

pub returns-clause-again : goal.returns-clause-again
returns-clause-again c =
    let made = c.in_ok-make_all.ensures.made in
    ran_again c.args.crew.now.seat.view c.begin.new.self.seat.view c.make_all.new.crew.seat.view c.commit.new.self.seat.view c.args.commit.now (begin_reply c.begin.result) (commit_reply c.commit.result)
    (c.begin.ensures.machine c.requires.may.tells).1 made c.in_ok-make_all.ensures.limits (c.commit.ensures.machine made.tells).1

pub returns-clause-state : goal.returns-clause-state
returns-clause-state c =
    let made = c.in_ok-make_all.ensures.made in
    commit_told c.args.crew.now.seat.view c.begin.new.self.seat.view c.make_all.new.crew.seat.view c.commit.new.self.seat.view c.args.commit.now (begin_reply c.begin.result) (commit_reply c.commit.result)
    (c.begin.ensures.machine c.requires.may.tells).1 c.in_ok-make_all.ensures.limits c.in_ok-make_all.ensures.state (c.commit.ensures.machine made.tells).1

pub returns-clause-free : goal.returns-clause-free
returns-clause-free c =
    let v = c.args.crew.now.seat.view in
    let w = c.begin.new.self.seat.view in
    let s : ℕ = c.args.commit.now.session in
    let low : s < v.limits.sessions = omega (arith, c.if-commit-layout.false, ap (λ (l : Limits). l.sessions) c.requires.crew.seat_of.limits, ap (λ (l : Layout). l.limits.sessions) c.layout.ensures) in
    let answers = subst (λ (r : Result ℕ BeginFault). Answers v w s Begin (begin_reply r)) c.in-Ok.is (c.begin.ensures.machine c.requires.may.tells).1 in
    met_none v w c.make_all.new.crew.seat.view c.args.commit.now c.in-Ok.field-0 low answers c.in_ok-make_all.ensures.made c.in_ok-make_all.ensures.limits
