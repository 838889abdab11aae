use Rattle.std.proofs.lemmas.Result.{IfOk-weaker}
use Rattle.lst_legal_runs.proofs.Deciding.{is_false, passes, refuses}
use Rattle.lst_legal.proofs.judging.follows_all.Goals as goal

pub returns-then-not-branch : goal.returns-then-not-branch
returns-then-not-branch c = is_false (λ all. refuses c.in_ok-follows_rules.field-0 c.if-not-branch.true c.in_ok-follows_rules.ensures all.rules)

pub returns : goal.returns
returns c = IfOk-weaker c.follows_level.result _ _
    (λ b decides. (
      (λ sure. record { rules = passes c.in_ok-follows_rules.field-0 c.if-not-branch.false c.in_ok-follows_rules.ensures; added = decides.0 sure }),
      (λ all. decides.1 all.added),
    ))
    c.follows_level.ensures
