use Rattle.std.proofs.Common.{◌≡◌, [], ◌∷◌, ◌++◌, refl, ap, ◌∙◌, arith}
use Rattle.std.specs.Prelude.{Some, map, option_map}
use Rattle.lst_bench.proofs.sums.patch.Goals as goal

pub returns : goal.returns
returns c =
    let first = c.push.ensures.items ∙ ap (λ changes. changes ++ Some c.args.number ∷ []) c.new-cells.ensures in
    let patch : c.of_numbers.result ≡ Some (Some c.args.number) ∷ [] = c.of_numbers.ensures ∙ ap (map (option_map Some)) first in
    rw patch (record { width = refl; sets = (0, Some (Some c.args.number), omega arith, refl, refl) })
