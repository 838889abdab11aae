use Rattle.std.proofs.Common.{◌≡◌, [], ◌∷◌, ◌++◌, refl, ap, ◌∙◌, arith}
use Rattle.std.specs.Prelude.{Some, None, map, option_map}
use Rattle.lst_test_calls.proofs.steps.patch.Goals as goal

pub returns : goal.returns
returns c =
    let first = c.push.ensures.items ∙ ap (λ changes. changes ++ Some c.args.first ∷ []) c.new-cells.ensures in
    let both = c.push-2.ensures.items ∙ ap (λ changes. changes ++ None ∷ []) first in
    let patch : c.of_numbers.result ≡ Some (Some c.args.first) ∷ None ∷ [] = c.of_numbers.ensures ∙ ap (map (option_map Some)) both in
    rw patch (record { width = refl; sets = (0, Some (Some c.args.first), omega arith, refl, refl) })
