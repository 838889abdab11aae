use Rattle.std.proofs.Common.{subst}
use Rattle.std.specs.Prelude.{Option, IfSome}
use Rattle.lst_model.specs.Tables.{Rows, all_applied}
use Rattle.lst_csv.specs.Writing.{IsListed}
use Rattle.lst_csv.proofs.Listed.{no_commit, one_more_commit}
use Rattle.lst_csv.proofs.folding.rising_rows.Goals as goal

pub loop-commit-init : goal.loop-commit-init
loop-commit-init c = no_commit c.args.commits.now c.new-rows.result c.new-rows.ensures

pub loop-commit-preserved : goal.loop-commit-preserved
loop-commit-preserved c =
    let lists = subst (λ (found : Option _). IfSome found (λ next. (table : Rows) → IsListed c.loop-commit.floor c.loop-commit.rows table → IsListed next c.list_writes.new.rows (all_applied table c.items.result.now))) c.in-Some.is c.in_ok-next.ensures in
    one_more_commit c.args.commits.now c.loop-commit.rows c.list_writes.new.rows c.loop-commit.floor c.in-Some.next c.loop-commit.commit-index c.commit-item.result c.items.result.now c.loop-commit-test.true c.commit-item.is c.items.ensures lists c.loop-commit.invariant
