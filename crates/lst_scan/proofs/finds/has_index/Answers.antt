use Rattle.std.proofs.Common.{ap, ◌∙◌}
use Rattle.lst_layout.specs.declared.layout.Layout.{Layout}
use Rattle.lst_machine.specs.Calls.{is_indexed}
use Rattle.lst_scan.proofs.Indexes.{index_is}
use Rattle.lst_scan.proofs.finds.has_index.Goals as goal

pub returns : goal.returns
returns c = index_is c.layout.result.now.limits c.args.column c.is_indexed.result c.is_indexed.ensures ∙ ap (λ (y : Layout). is_indexed y.limits c.args.column) c.layout.ensures
