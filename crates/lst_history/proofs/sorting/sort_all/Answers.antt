use Rattle.std.proofs.Common.{ℕ, List, get_or, set, ap, ◌∙◌, arith}
use Rattle.lst_model.specs.declared.commits.Commit.{Commit}
use Rattle.lst_history.specs.Commits.{in_order}
use Rattle.lst_history.proofs.InOrder.{ordered_next, ordered_all}
use Rattle.lst_history.proofs.sorting.sort_all.Goals as goal

pub loop-commit-preserved : goal.loop-commit-preserved
loop-commit-preserved c = let cs : List Commit = c.args.commits.now in let n : ℕ = c.loop-commit.commit-index in let here : Commit = c.commit-item.result in
    ap (λ (now : List Commit). set now n c.sort.new.commit) c.loop-commit.invariant
    ∙ ordered_next cs n here c.sort.new.commit (omega (arith, c.loop-commit-test.true)) (c.in_ok-sort.ensures.ok ∙ ap (λ (now : List Commit). in_order (get_or now n here)) c.loop-commit.invariant)

pub returns : goal.returns
returns c = record { ok = c.loop-commit.invariant ∙ ordered_all c.loop-commit.commit-index c.args.commits.now (omega (arith, c.loop-commit-test.false)) }
