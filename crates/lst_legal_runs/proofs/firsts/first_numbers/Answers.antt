use Rattle.std.proofs.Common.{ℕ, ◌+◌, ◌∙◌, arith, ap}
use Rattle.lst_replies.specs.Explained.{is_numbered}
use Rattle.lst_legal_runs.specs.Marks.{number_at}
use Rattle.lst_legal_runs.specs.Firsts.{first_after}
use Rattle.lst_legal_runs.proofs.Firsting.{first_more}
use Rattle.lst_legal_runs.proofs.firsts.first_numbers.Goals as goal

pub loop-commit-preserved : goal.loop-commit-preserved
loop-commit-preserved c =
    let i = c.loop-commit.commit-index in
    let commit = c.commit-item.result in
    let marks = c.loop-commit.marks in (
      omega arith,
      λ session number. first_more (is_numbered session number) c.args.history.now i commit (number_at marks session number 0) (number_at c.mark_number.new.marks session number 0) c.loop-commit-test.true c.commit-item.is (c.loop-commit.invariant.1 session number)
          (c.in_ok-mark_number.ensures session number ∙ ap (λ (t : ℕ). first_after (is_numbered session number commit) (number_at marks session number 0) (t + 1)) c.loop-commit.invariant.0),
    )
