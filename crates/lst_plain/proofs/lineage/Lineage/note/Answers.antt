use Rattle.std.proofs.Common.{◌<◌, length, sym, ap, ◌∙◌, subst}
use Rattle.lst_plain.specs.Lineages.{HolderState, new_holder, noted_holder, with_holder}
use Rattle.lst_plain.specs.LineageOf.{lineage_of}
use Rattle.lst_machine.proofs.Viewing.{element}
use Rattle.lst_plain.proofs.lineage.Lineage.note.Goals as goal

pub note-requires : goal.note-requires
note-requires c = subst (λ (h : HolderState). c.args.tail.range < length h.firsts)
    (sym (element c.args.self.now.holders.items c.args.session c.index_mut.result.now (new_holder 0) c.requires.within c.index_mut.ensures.value)) c.requires.range

pub returns : goal.returns
returns c =
    let old = element c.args.self.now.holders.items c.args.session c.index_mut.result.now (new_holder 0) c.requires.within c.index_mut.ensures.value in
    ap (λ (h : HolderState). with_holder (lineage_of c.args.self.now) c.args.session h) (c.note.ensures ∙ ap (λ (h : HolderState). noted_holder h c.args.tail.range c.args.tail.number) old)
