use Rattle.std.proofs.Common.{take, ap, ◌∙◌}
use Rattle.lst_model.specs.Tables.{Rows, no_rows, all_applied}
use Rattle.lst_model.specs.Histories.{replayed}
use Rattle.lst_machine.proofs.machine.Machine.sight.Goals as goal

pub returns : goal.returns
returns c =
    let table = c.in_ok-replay.ensures ∙ ap (λ (table : Rows). replayed table c.commits_by.result.now) c.new-sight.ensures ∙ ap (replayed no_rows) (c.commits_by.ensures ∙ ap (take c.args.begin) c.items.ensures) in
    let own = c.as_slice.ensures.value ∙ c.in_ok-own.ensures in
    c.in_ok-apply.ensures ∙ (λ i. all_applied (table i) (own i))
