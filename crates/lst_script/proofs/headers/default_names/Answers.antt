use Rattle.std.proofs.Common.{◌++◌, ◌∷◌, [], List, ℕ, ap, ◌∙◌}
use Rattle.lst_script.proofs.NamesAgain.{names_more}
use Rattle.lst_script.proofs.headers.default_names.Goals as goal

pub loop-column-preserved : goal.loop-column-preserved
loop-column-preserved c = c.in_ok-push.ensures.ok ∙ (ap (λ (name : List ℕ). c.loop-column.names ++ name ∷ []) c.in_ok-name.ensures ∙ names_more c.loop-column.column c.loop-column.names c.loop-column.invariant)
