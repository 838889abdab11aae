use Rattle.std.proofs.Common.{sym, ap, ◌∙◌}
use Rattle.std.specs.Prelude.{None, is_some}
use Rattle.lst_snapshots.specs.Versions.{last_time, last_row}
use Rattle.lst_snapshots.proofs.Ages.{last_time-got, last_row-got}
use Rattle.lst_snapshots.proofs.versions.Versions.newest.Goals as goal

pub returns-in-Some-clause-time : goal.returns-in-Some-clause-time
returns-in-Some-clause-time c =
    let whole = c.deref.ensures.value ∙ c.self.view_is in
    sym (last_time-got 0 c.deref.result.now c.in-Some.version.now (sym c.in-Some.ensures.value)) ∙ ap (last_time 0) whole

pub returns-in-Some-clause-is_there : goal.returns-in-Some-clause-is_there
returns-in-Some-clause-is_there c =
    let whole = c.deref.ensures.value ∙ c.self.view_is in
    c.is_some.ensures
    ∙ ap (λ row. is_some row) (sym (last_row-got None c.deref.result.now c.in-Some.version.now (sym c.in-Some.ensures.value)))
    ∙ ap (λ vs. is_some (last_row None vs)) whole
