use Rattle.std.proofs.Common.{◌∙◌, sym, ◌+◌, ◌*◌, ◌/◌, ◌%◌, ◌-◌, eq-eqb, eqb-true}
use Rattle.lst_layout.specs.Words.{shown}
use Rattle.lst_core.proofs.Drafting.{record_is}
use Rattle.lst_core.proofs.drafts.is_of.Goals as goal

pub returns : goal.returns
returns c = let e = record_is c.args.layout.now.limits (shown c.args.layout.now.limits c.args.words.now).cells c.args.tail c.cell.result c.cell.ensures in
    let n = 256 * ((c.args.tail - 1) / c.args.layout.now.limits.tails) + c.cell.result / 65536 % 256 in
    (λ t. sym e ∙ eqb-true n c.args.rec t, λ is. eq-eqb n c.args.rec (e ∙ is))
