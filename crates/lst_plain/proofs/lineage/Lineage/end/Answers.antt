use Rattle.std.proofs.Common.{ap, ◌∙◌}
use Rattle.lst_plain.specs.Lineages.{HolderState, new_holder, ended_holder, with_holder}
use Rattle.lst_plain.specs.LineageOf.{lineage_of}
use Rattle.lst_machine.proofs.Viewing.{element}
use Rattle.lst_plain.proofs.lineage.Lineage.end.Goals as goal

pub returns : goal.returns
returns c =
    let old = element c.args.self.now.holders.items c.args.session c.index_mut.result.now (new_holder 0) c.requires c.index_mut.ensures.value in
    ap (λ (h : HolderState). with_holder (lineage_of c.args.self.now) c.args.session h) (c.end.ensures ∙ ap ended_holder old)
