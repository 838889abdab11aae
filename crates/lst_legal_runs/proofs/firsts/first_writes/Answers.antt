use Rattle.std.proofs.Common.{ℕ, ◌+◌, ◌∙◌, List, arith, ap}
use Rattle.std.specs.Prelude.{◌==◌}
use Rattle.std.specs.List.{list_any}
use Rattle.lst_model.specs.declared.acts.Write.{Write}
use Rattle.lst_replies.specs.Explained.{has_write_on}
use Rattle.lst_legal_runs.specs.Marks.{number_at}
use Rattle.lst_legal_runs.specs.Firsts.{first_after}
use Rattle.lst_legal_runs.proofs.Firsting.{first_more}
use Rattle.lst_legal_runs.proofs.firsts.first_writes.Goals as goal

pub loop-commit-preserved : goal.loop-commit-preserved
loop-commit-preserved c =
    let i = c.loop-commit.commit-index in
    let commit = c.commit-item.result in
    let marks = c.loop-commit.marks in (
      omega arith,
      λ key. first_more (has_write_on key) c.args.history.now i commit (number_at marks key 0 0) (number_at c.mark_writes.new.marks key 0 0) c.loop-commit-test.true c.commit-item.is (c.loop-commit.invariant.1 key)
          (c.in_ok-mark_writes.ensures key ∙ ap (λ (ws : List Write). first_after (list_any (λ (write : Write). write.key == key) ws) (number_at marks key 0 0) (c.loop-commit.time + 1)) c.items.ensures
          ∙ ap (λ (t : ℕ). first_after (has_write_on key commit) (number_at marks key 0 0) (t + 1)) c.loop-commit.invariant.0),
    )
