use Rattle.std.proofs.Common.{ap, ◌∙◌}
use Rattle.std.proofs.lemmas.List.{take_rest}
use Rattle.lst_replies.specs.Reading.{texts}
use Rattle.lst_replies.proofs.Fronts.{drop-texts}
use Rattle.lst_replies.proofs.parse.behind.Goals as goal

pub returns : goal.returns
returns c = ap (λ slices. texts slices) (take_rest c.args.lines.now c.args.count) ∙ drop-texts c.args.count c.args.lines.now
