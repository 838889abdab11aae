use Rattle.std.proofs.Common.{sym, ap, ◌∙◌}
use Rattle.std.specs.Prelude.{None}
use Rattle.lst_model.specs.Histories.{row_after}
use Rattle.lst_snapshots.proofs.Ages.{last_row-got}
use Rattle.lst_snapshots.proofs.versions.newest_changed.Goals as goal

pub returns-in-Some : goal.returns-in-Some
returns-in-Some c =
    c.row_changed.ensures ∙ ap (λ row. row_after row c.args.act.now) (sym (last_row-got None c.args.versions.now c.in-Some.version.now (sym c.in-Some.ensures.value)))
