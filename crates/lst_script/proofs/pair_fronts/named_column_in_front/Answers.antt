use Rattle.std.proofs.Common.{◌≡◌, ℕ, List, [], ◌∷◌, ◌++◌, get_or, ap, refl, ◌∙◌}
use Rattle.lst_script.proofs.PairFronts.{named_column_here, other_default}
use Rattle.lst_script.proofs.pair_fronts.named_column_in_front.Goals as goal

pub returns-in-Some : goal.returns-in-Some
returns-in-Some c =
    let named : c.index-names-column.result ≡ get_or c.args.names.now c.loop-column.column [] = c.index-names-column.is ∙ other_default c.args.names.now c.loop-column.column c.index-names-column.result c.loop-column-test.true in
    named_column_here c.args.names.now c.requires.proper c.args.text.now c.in-Some.rest.now c.loop-column.column _ c.args.end c.loop-column-test.true (c.in-Some.ensures ∙ ap (λ (name : List ℕ). name ++ c.args.end ∷ c.in-Some.rest.now) (c.as_bytes.ensures ∙ named)) refl
