use Rattle.std.proofs.Common.{sym, ◌∙◌}
use Rattle.lst_replies.proofs.Fronts.{ends_empty-last}
use Rattle.lst_replies.proofs.parse.ends_empty.Goals as goal

pub returns-in-Some : goal.returns-in-Some
returns-in-Some c = c.is_empty.ensures ∙ sym (ends_empty-last c.args.lines.now c.in-Some.line.now (sym c.in-Some.ensures.value))
