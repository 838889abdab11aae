use Rattle.std.proofs.Common.{◌≡◌, ◌∙◌, ℕ, suc, ◌<◌, List, length, take, drop, get_or, ap, subst, arith}
use Rattle.std.specs.Prelude.{Result}
use Rattle.lst_layout.specs.declared.limits.Limits.{Limits}
use Rattle.lst_model.specs.declared.acts.Write.{Write}
use Rattle.lst_session.specs.declared.kinds.WriteRefusal.{WriteRefusal}
use Rattle.lst_machine.specs.Machine.{state_after}
use Rattle.lst_session.specs.Crews.{Answers, store_told, state_told}
use Rattle.lst_session.specs.Replies.{write_reply, write_cause}
use Rattle.lst_replay_laws.specs.Again.{call_of}
use Rattle.lst_redo.specs.Recoveries.{IsMaking, WritesFindFull}
use Rattle.lst_redo.proofs.Making.{found_full, made_more, taken_more, write_at}
use Rattle.lst_redo.specs.Scripts.{lines_of_writes}
use Rattle.lst_redo.proofs.Scripts.{write_told}
use Rattle.lst_redo.proofs.again.make_all.Goals as goal

pub returns-in_default-clause-full : goal.returns-in_default-clause-full
returns-in_default-clause-full c =
    let v = c.loop-write.crew.seat.view in
    let w = c.make.new.crew.seat.view in
    let commit = c.args.commit.now in
    let ws : List Write = commit.writes in
    let i : ℕ = c.loop-write.write-index in
    let x : Write = c.write-item.result in
    let low : i < length ws = omega (arith, c.loop-write-test.true, ap length c.items-write-items.ensures) in
    let is : x ≡ get_or ws i x = subst (λ (xs : List Write). x ≡ get_or xs i x) c.items-write-items.ensures c.write-item.is in
    let making = c.loop-write.invariant.2 in
    let answers = subst (λ (r : Result (Unit {0}) WriteRefusal). Answers v w commit.session (call_of x) (write_reply r)) c.in_default.is (c.make.ensures.machine making.tells).1 in
    subst (λ (l : Limits). WritesFindFull l (store_told c.args.crew.now.seat.view) commit.session ws) c.loop-write.invariant.1
    (found_full c.commits_run_again.ensures.writes v w (store_told c.args.crew.now.seat.view) commit c.args.crew.now.seat.view.limits.columns (take i ws) x (drop (suc i) ws) making c.requires.writes (write_at ws i x low is)
    (write_cause c.in_default.field-0) answers)

pub loop-write-preserved : goal.loop-write-preserved
loop-write-preserved c =
    let v = c.loop-write.crew.seat.view in
    let w = c.make.new.crew.seat.view in
    let commit = c.args.commit.now in
    let ws : List Write = commit.writes in
    let i : ℕ = c.loop-write.write-index in
    let x : Write = c.write-item.result in
    let low : i < length ws = omega (arith, c.loop-write-test.true, ap length c.items-write-items.ensures) in
    let is : x ≡ get_or ws i x = subst (λ (xs : List Write). x ≡ get_or xs i x) c.items-write-items.ensures c.write-item.is in
    let making = c.loop-write.invariant.2 in
    let told = c.make.ensures.machine making.tells in
    let answers = subst (λ (r : Result (Unit {0}) WriteRefusal). Answers v w commit.session (call_of x) (write_reply r)) c.in-Ok.is told.1 in (
      c.make.ensures.crew,
      told.1.limits ∙ c.loop-write.invariant.1,
      subst (IsMaking w (store_told c.args.crew.now.seat.view) commit) (taken_more ws i x low is)
          (made_more c.commits_run_again.ensures.writes v w (store_told c.args.crew.now.seat.view) commit c.args.crew.now.seat.view.limits.columns (take i ws) x (drop (suc i) ws) making c.requires.writes (write_at ws i x low is) told.0 answers),
      write_told c.args.crew.now.seat.view v w commit.session (take i ws) x (write_reply c.make.result) c.loop-write.invariant.1 c.loop-write.invariant.3 told.1
          ∙ ap (λ (front : List Write). state_after c.args.crew.now.seat.view.limits (state_told c.args.crew.now.seat.view) (lines_of_writes commit.session front)) (taken_more ws i x low is),
    )
