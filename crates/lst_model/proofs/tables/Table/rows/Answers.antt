use Rattle.std.proofs.Common.{sym, ap, ◌∙◌}
use Rattle.std.proofs.lemmas.Result.{IfOk-weaker}
use Rattle.std.specs.FinMap.{entries}
use Rattle.lst_model.proofs.Sorted.{own_entries}
use Rattle.lst_model.proofs.tables.Table.rows.Goals as goal

pub returns : goal.returns
returns c = IfOk-weaker c.listed.result _ _
    (λ list is. is ∙ sym (own_entries c.self.inside.rows.entries c.listed.ensures.ordered) ∙ ap entries c.self.view_is)
    c.listed.ensures.list
