use Rattle.std.proofs.Common.{◌≡◌, ◌++◌, ◌<◌, ℕ, List, ap, subst, ◌∙◌, codes}
use Rattle.std.proofs.lemmas.Result.{on_ok_weaker}
use Rattle.lst_historic.specs.Places.{IsBuiltAt}
use Rattle.lst_historic.specs.Refusals.{IsRefusalOf}
use Rattle.lst_historic.proofs.Placed.{built_length}
use Rattle.lst_past.specs.Past.{number_line}
use Rattle.lst_past.proofs.Telling.{late_line}
use Rattle.lst_past.proofs.past.push_table.Goals as goal

pub returns-in-Err-Late : goal.returns-in-Err-Late
returns-in-Err-Late c =
    let refused : IsBuiltAt c.args.block.now c.in-Err-Late.until × (c.in-Err-Late.until < c.args.time) = subst (IsRefusalOf c.args.block.now c.args.time) c.in-Err-Late.field-0-is c.in-Err-Late.ensures.refused in
    on_ok_weaker c.push_number_line.result (λ is columns history has.
    is ∙ ap (λ (line : List ℕ). c.args.text.now ++ line)
    (ap (number_line (codes "future ")) c.from.ensures ∙ late_line history c.args.time c.in-Err-Late.until (built_length c.args.block.now c.in-Err-Late.until columns history refused.0 has) refused.1))
    c.push_number_line.ensures
