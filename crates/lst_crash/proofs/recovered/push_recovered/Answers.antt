use Rattle.std.proofs.lemmas.Grind.{common_steps}
use Rattle.std.proofs.Common.{◌<◌, subst, arith}
use Rattle.lst_historic.specs.Places.{IsBuiltAt}
use Rattle.lst_historic.specs.Refusals.{IsRefusalOf}
use Rattle.lst_historic.proofs.Placed.{built_length}
use Rattle.lst_crash.proofs.recovered.push_recovered.Goals as goal

pub unreachable-requires : goal.unreachable-requires
unreachable-requires c =
    let refused : IsBuiltAt c.in_ok-block.block c.in-Err-Late.field-0-0 × (c.in-Err-Late.field-0-0 < c.len-2.result) = subst (IsRefusalOf c.in_ok-block.block c.len-2.result) c.in-Err-Late.field-0-is c.in-Err-Late.ensures.refused in
    let until = built_length c.in_ok-block.block c.in-Err-Late.field-0-0 c.args.columns c.args.history.now refused.0 c.in_ok-block.ensures.has in
    let all = c.len-2.ensures in
    let late = refused.1 in omega (arith, until, all, late)

pub returns-in-Ok : goal.returns-in-Ok
returns-in-Ok c = grind (arith, common_steps)
