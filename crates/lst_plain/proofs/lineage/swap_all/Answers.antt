use Rattle.std.proofs.Common.{◌≡◌, ◌++◌, length, set, map, take, drop, sym, ap, ◌∙◌, arith}
use Rattle.std.proofs.lemmas.List.Edits.{map_over_more}
use Rattle.lst_plain.specs.Lineages.{HolderState, swapped_holder}
use Rattle.lst_plain.proofs.Firsts.{mapped}
use Rattle.lst_plain.proofs.lineage.swap_all.Goals as goal

pub loop-session-preserved : goal.loop-session-preserved
loop-session-preserved c =
    ap (λ (h : HolderState). set c.loop-session.holders c.loop-session.session h) c.swap.ensures
    ∙ ap (λ (h : HolderState). set c.loop-session.holders c.loop-session.session (swapped_holder c.args.spare h)) (sym c.index-holders-session.is)
    ∙ map_over_more (swapped_holder c.args.spare) c.args.holders.now c.loop-session.holders c.loop-session.session c.index-holders-session.result (omega (arith, c.loop-session-test.true)) c.loop-session.invariant c.index-holders-session.is

pub returns : goal.returns
returns c =
    let all : c.loop-session.session ≡ length c.args.holders.now = omega (arith, c.loop-session-test.false) in
    c.loop-session.invariant ∙ ap (λ n. map (swapped_holder c.args.spare) (take n c.args.holders.now) ++ drop n c.args.holders.now) all ∙ mapped (swapped_holder c.args.spare) c.args.holders.now
