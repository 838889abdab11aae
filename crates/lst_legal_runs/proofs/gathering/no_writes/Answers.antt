use Rattle.std.proofs.Common.{◌≡◌, ◌∙◌, ◌++◌, ◌∷◌, [], ℕ, List, replicate, ap, arith}
use Rattle.std.proofs.lemmas.List.{replicate_more}
use Rattle.lst_model.specs.declared.acts.Write.{Write}
use Rattle.lst_legal_runs.proofs.gathering.no_writes.Goals as goal

pub loop-preserved : goal.loop-preserved
loop-preserved c =
    c.in_ok-push.ensures.items ∙ ap (λ (ws : List (List Write)). ws ++ c.new.result ∷ []) c.loop.invariant
    ∙ ap (λ (w : List Write). replicate c.loop.counter [] ++ w ∷ []) c.new.ensures ∙ replicate_more c.loop.counter []

pub returns : goal.returns
returns c = let all : c.loop.counter ≡ c.args.sessions = omega arith in c.loop.invariant ∙ ap (λ (n : ℕ). replicate n []) all
