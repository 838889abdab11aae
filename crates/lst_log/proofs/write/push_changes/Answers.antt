use Rattle.std.proofs.Common.{◌≡◌, ◌++◌, ◌∙◌, ℕ, List, Option, ap, subst}
use Rattle.std.specs.Prelude.{unwrap_or, OnOk}
use Rattle.std.specs.List.{flat_map}
use Rattle.lst_log.specs.Format.{word}
use Rattle.lst_log.proofs.Sizes.{settings_are}
use Rattle.lst_log.proofs.write.push_changes.Goals as goal

pub returns : goal.returns
returns c =
    let same = ap (flat_map (λ (change : Option ℕ). word (unwrap_or change 0))) c.numbers.ensures.numbers ∙ settings_are c.args.patch.now in
    subst (λ (bytes : List ℕ). OnOk c.push_settings.result (c.push_settings.new.text.items ≡ c.args.text.now.items ++ bytes)) same c.push_settings.ensures
