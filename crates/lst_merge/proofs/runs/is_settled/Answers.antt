use Rattle.std.proofs.Common.{sym, ◌∙◌, refl}
use Rattle.lst_merge.proofs.Ending.{some_then, none_then, settled_at}
use Rattle.lst_merge.proofs.runs.is_settled.Goals as goal

pub returns-clause-yes : goal.returns-clause-yes
returns-clause-yes c = λ e. let q = some_then _ c.time_of.result (sym c.is_some.ensures ∙ e) c.time_of.ensures.some in settled_at _ c.args.tail.identifier _ q.0 refl q.1

pub returns-clause-no : goal.returns-clause-no
returns-clause-no c = λ e. none_then _ c.time_of.result (sym c.is_some.ensures ∙ e) c.time_of.ensures.none
