use Rattle.std.proofs.Common.{◌≡◌, ◌++◌, ℕ, List, length, set, map, take, drop, sym, ap, ◌∙◌}
use Rattle.std.proofs.lemmas.List.{length-map}
use Rattle.std.proofs.Math.Seq.{take-append_seam}
use Rattle.lst_plain.specs.Lineages.{HolderState, swapped_holder}
use Rattle.lst_plain.proofs.lineage.Lineage.swap.Goals as goal

pub returns : goal.returns
returns c =
    let new : List HolderState = c.swap_all.new.holders in
    let old : List HolderState = c.args.self.now.holders.items in
    let long : length new ≡ c.args.self.now.holders.len = ap length c.swap_all.ensures ∙ length-map c.as_mut_slice.result.now (swapped_holder c.args.spare) ∙ c.as_mut_slice.ensures.len in
    let written : take c.args.self.now.holders.len (new ++ drop (length new) old) ≡ new = ap (λ (n : ℕ). take n (new ++ drop (length new) old)) (sym long) ∙ take-append_seam new (drop (length new) old) in
    ap (λ (holders : List HolderState). record { tps = set c.args.self.now.tps.items c.args.page c.args.tps; holders = holders })
    (written ∙ c.swap_all.ensures ∙ ap (map (swapped_holder c.args.spare)) c.as_mut_slice.ensures.value)
