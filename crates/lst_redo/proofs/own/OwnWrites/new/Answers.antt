use Rattle.std.proofs.Common.{◌∙◌, ◌++◌, ◌∷◌, List, [], replicate, ap}
use Rattle.lst_model.specs.declared.acts.Write.{Write}
use Rattle.lst_redo.proofs.Places.{replicate_more}
use Rattle.lst_redo.proofs.own.OwnWrites.new.Goals as goal

pub loop-preserved : goal.loop-preserved
loop-preserved c =
    c.in_ok-push.ensures.items ∙ ap (λ (xs : List (List Write)). xs ++ c.new.result ∷ []) c.loop.invariant ∙ ap (λ (ws : List Write). replicate c.loop.counter [] ++ ws ∷ []) c.new.ensures ∙ replicate_more c.loop.counter []
