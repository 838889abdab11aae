use Rattle.std.proofs.Common.{◌≡◌, ◌∙◌, ◌++◌, ◌∷◌, [], ℕ, List, Option, None, replicate, ap, arith}
use Rattle.std.proofs.lemmas.List.{replicate_more}
use Rattle.lst_model.specs.declared.commits.Commit.{Commit}
use Rattle.lst_legal_runs.proofs.gathering.no_commits.Goals as goal

pub loop-preserved : goal.loop-preserved
loop-preserved c = c.in_ok-push.ensures.items ∙ ap (λ (slots : List (Option Commit)). slots ++ None ∷ []) c.loop.invariant ∙ replicate_more c.loop.counter None

pub returns : goal.returns
returns c = let all : c.loop.counter ≡ c.args.count = omega arith in c.loop.invariant ∙ ap (λ (n : ℕ). replicate n None) all
