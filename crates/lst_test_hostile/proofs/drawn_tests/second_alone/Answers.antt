use Rattle.std.proofs.Common.{◌≡◌, [], ◌∷◌, ◌++◌, refl, ap, ◌∙◌, arith}
use Rattle.std.specs.Prelude.{Some, None, map, option_map}
use Rattle.lst_test_hostile.proofs.drawn_tests.second_alone.Goals as goal

pub returns : goal.returns
returns c =
    let none : c.of_numbers-patch.result ≡ [] = c.of_numbers-patch.ensures ∙ ap (map (option_map Some)) c.new.ensures in
    let first = c.push.ensures ∙ ap (λ changes. changes ++ None ∷ []) none in
    let both : c.push-2.new.self ≡ None ∷ Some c.args.second ∷ [] = c.push-2.ensures ∙ ap (λ changes. changes ++ Some c.args.second ∷ []) first in
    rw both (record { width = refl; sets = (1, Some c.args.second, omega arith, refl, refl) })
