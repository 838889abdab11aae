use Rattle.std.proofs.Common.{◌≡◌, [], ◌∷◌, ◌++◌, refl, ap, ◌∙◌, arith}
use Rattle.std.specs.Prelude.{Some, map, option_map}
use Rattle.lst_test_hostile.proofs.drawn_tests.first_and.Goals as goal

pub returns : goal.returns
returns c =
    let none : c.of_numbers-patch.result ≡ [] = c.of_numbers-patch.ensures ∙ ap (map (option_map Some)) c.new.ensures in
    let first = c.push.ensures ∙ ap (λ changes. changes ++ Some c.args.first ∷ []) none in
    let both : c.push-2.new.self ≡ Some c.args.first ∷ c.args.second ∷ [] = c.push-2.ensures ∙ ap (λ changes. changes ++ c.args.second ∷ []) first in
    rw both (record { width = refl; sets = (0, Some c.args.first, omega arith, refl, refl) })
