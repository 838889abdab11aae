use Rattle.std.proofs.Common.{◌++◌, ◌∷◌, [], ◌∙◌, ℕ, List, Option, ap}
use Rattle.std.specs.Prelude.{unwrap_or}
use Rattle.std.specs.List.{flat_map}
use Rattle.lst_line_list.proofs.Values.{settings_are}
use Rattle.lst_line_list.proofs.keeping.push_changes.Goals as goal

pub returns : goal.returns
returns c =
    let same = ap (flat_map (λ (change : Option ℕ). unwrap_or change 0 ∷ [])) c.numbers.ensures.numbers ∙ settings_are c.args.patch.now in
    c.push_settings.ensures ∙ ap (λ (ns : List ℕ). c.args.numbers.now.items ++ ns) same
