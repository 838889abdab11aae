use Rattle.std.proofs.Common.{◌≡◌, ℕ, suc, ◌+◌, List, length, take, drop, ap, subst, arith}
use Rattle.std.proofs.lemmas.List.{length-take-le}
use Rattle.lst_model.specs.declared.commits.Commit.{Commit}
use Rattle.lst_redo.specs.Recoveries.{HasRunAgain}
use Rattle.lst_redo.proofs.Running.{may_run, ran_more, full_at, commit_at, run_more}
use Rattle.lst_redo.proofs.recovery.run_all.Goals as goal

pub run_again-requires-clause-may : goal.run_again-requires-clause-may
run_again-requires-clause-may c =
    let cs : List Commit = c.args.commits.now in
    let i : ℕ = c.loop-commit.commit-index in
    let x : Commit = c.commit-item.result in
    may_run c.args.store.now c.args.store.now.layout.limits (take i cs) (drop (suc i) cs) cs x c.loop-commit.crew (commit_at cs i x c.loop-commit-test.true c.commit-item.is) c.requires.recovered c.requires.writes c.loop-commit.invariant.0

pub returns-in_default-clause-full : goal.returns-in_default-clause-full
returns-in_default-clause-full c =
    let cs : List Commit = c.args.commits.now in
    let i : ℕ = c.loop-commit.commit-index in
    let x : Commit = c.commit-item.result in
    let place : c.loop-commit.time + 1 ≡ length (take i cs) + 1 = omega (arith, c.loop-commit.invariant.1, length-take-le i cs (omega (arith, c.loop-commit-test.true))) in
    full_at c.args.store.now c.args.store.now.layout.limits (take i cs) (drop (suc i) cs) cs x c.loop-commit.crew (commit_at cs i x c.loop-commit-test.true c.commit-item.is) c.requires.recovered c.requires.writes c.loop-commit.invariant.0
    c.in_default.ensures.full (c.loop-commit.time + 1) place

pub loop-commit-preserved : goal.loop-commit-preserved
loop-commit-preserved c =
    let cs : List Commit = c.args.commits.now in
    let i : ℕ = c.loop-commit.commit-index in
    let x : Commit = c.commit-item.result in
    let ran = ran_more c.args.store.now c.args.store.now.layout.limits (take i cs) (drop (suc i) cs) cs x c.loop-commit.crew (commit_at cs i x c.loop-commit-test.true c.commit-item.is) c.requires.recovered c.requires.writes c.loop-commit.invariant.0
    c.commits_run_again.ensures.rests c.run_again.new.crew c.in-Ok.ensures.crew c.in-Ok.ensures.limits c.in-Ok.ensures.tells c.in-Ok.ensures.again c.in-Ok.ensures.state c.in-Ok.ensures.free in
    (subst (λ (front : List Commit). HasRunAgain c.args.store.now c.args.store.now.layout.limits front c.run_again.new.crew) (run_more cs i x c.loop-commit-test.true c.commit-item.is) ran, ap (λ (n : ℕ). n + 1) c.loop-commit.invariant.1)
