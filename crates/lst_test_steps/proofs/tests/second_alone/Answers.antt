use Rattle.std.proofs.Common.{◌≡◌, [], ◌∷◌, ◌++◌, refl, ap, ◌∙◌, arith}
use Rattle.std.specs.Prelude.{Some, None, map, option_map}
use Rattle.lst_test_steps.proofs.tests.second_alone.Goals as goal

pub returns : goal.returns
returns c =
    let first = c.push.ensures.items ∙ ap (λ changes. changes ++ None ∷ []) c.new-cells.ensures in
    let both = c.push-2.ensures.items ∙ ap (λ changes. changes ++ Some c.args.cell ∷ []) first in
    let patch : c.of_numbers.result ≡ None ∷ Some (Some c.args.cell) ∷ [] = c.of_numbers.ensures ∙ ap (map (option_map Some)) both in
    rw patch (record { width = refl; sets = (1, Some (Some c.args.cell), omega arith, refl, refl) })
