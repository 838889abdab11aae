use Rattle.std.proofs.Common.{◌≡◌, ◌+◌, ◌<◌, List, [], ◌∷◌, ◌++◌, length, take, sym, ap, ◌∙◌, subst, add-one, take-suc}
use Rattle.std.proofs.lemmas.List.{take_all}
use Rattle.lst_plain.specs.Lineages.{HolderState, new_holder, lesser, least_first}
use Rattle.lst_machine.proofs.Viewing.{element}
use Rattle.lst_plain.proofs.Firsts.{least-append}
use Rattle.lst_plain.proofs.lineage.least_of.Goals as goal

pub first-requires : goal.first-requires
first-requires c = subst (λ (h : HolderState). c.args.range < length h.firsts)
    (sym (element c.args.holders.now c.loop-holder.holder-index c.holder-item.result (new_holder 0) c.loop-holder-test.true c.holder-item.is))
    (c.requires c.loop-holder.holder-index c.loop-holder-test.true)

pub loop-holder-preserved : goal.loop-holder-preserved
loop-holder-preserved c =
    let more : take (c.loop-holder.holder-index + 1) c.args.holders.now ≡ take c.loop-holder.holder-index c.args.holders.now ++ c.holder-item.result ∷ [] =
    ap (λ n. take n c.args.holders.now) (add-one c.loop-holder.holder-index)
    ∙ take-suc c.args.holders.now c.loop-holder.holder-index c.holder-item.result c.loop-holder-test.true
    ∙ ap (λ h. take c.loop-holder.holder-index c.args.holders.now ++ h ∷ []) (sym c.holder-item.is) in
    c.lesser-least.ensures
    ∙ (λ i. lesser (c.loop-holder.invariant i) (c.first.ensures i))
    ∙ sym (least-append 0 (take c.loop-holder.holder-index c.args.holders.now) c.holder-item.result c.args.range)
    ∙ ap (λ (hs : List HolderState). least_first 0 hs c.args.range) (sym more)

pub returns : goal.returns
returns c = c.loop-holder.invariant ∙ ap (λ (hs : List HolderState). least_first 0 hs c.args.range) (take_all c.loop-holder.holder-index c.args.holders.now c.loop-holder-test.false)
