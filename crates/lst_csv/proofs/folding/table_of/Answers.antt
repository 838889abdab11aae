use Rattle.std.proofs.Common.{◌+◌, List, drop, sym, ap, ◌∙◌}
use Rattle.std.proofs.Math.Seq.{take-length}
use Rattle.std.proofs.lemmas.List.{drop_all}
use Rattle.lst_model.specs.declared.acts.Write.{Write}
use Rattle.lst_model.specs.declared.commits.Commit.{Commit}
use Rattle.lst_model.specs.Tables.{Rows, no_rows, all_applied}
use Rattle.lst_model.specs.Histories.{replayed}
use Rattle.lst_csv.proofs.Lists.{left}
use Rattle.lst_csv.proofs.folding.table_of.Goals as goal

pub loop-commit-preserved : goal.loop-commit-preserved
loop-commit-preserved c =
    ap (λ (table : Rows). replayed table (drop (c.loop-commit.commit-index + 1) c.args.commits.now)) (c.in_ok-apply_all.ensures ∙ ap (λ (ws : List Write). all_applied c.loop-commit.table ws) c.items.ensures)
    ∙ ap (λ (cs : List Commit). replayed c.loop-commit.table cs) (sym (left c.args.commits.now c.loop-commit.commit-index c.commit-item.result c.loop-commit-test.true c.commit-item.is))
    ∙ c.loop-commit.invariant

pub returns : goal.returns
returns c =
    ap (λ (cs : List Commit). replayed c.loop-commit.table cs) (sym (drop_all c.loop-commit.commit-index c.args.commits.now c.loop-commit-test.false))
    ∙ c.loop-commit.invariant
    ∙ ap (replayed no_rows) (sym (take-length c.args.commits.now))
