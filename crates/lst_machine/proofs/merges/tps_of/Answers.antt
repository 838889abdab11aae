use Rattle.std.proofs.Common.{ℕ, ◌+◌, List, drop, sym, ap, ◌∙◌}
use Rattle.std.proofs.lemmas.List.{drop_all, drop_more}
use Rattle.lst_machine.specs.declared.parts.Swap.{Swap}
use Rattle.lst_machine.specs.Parts.{tps_after}
use Rattle.lst_machine.proofs.merges.tps_of.Goals as goal

pub loop-swap-preserved : goal.loop-swap-preserved
loop-swap-preserved c =
    ap (λ (tps : ℕ). tps_after tps (drop (c.loop-swap.swap-index + 1) c.args.swaps.now) c.args.range c.args.column) c.swapped_tps-tps.ensures
    ∙ ap (λ (xs : List Swap). tps_after c.loop-swap.tps xs c.args.range c.args.column) (sym (drop_more c.args.swaps.now c.loop-swap.swap-index (record { range = 0; column = 0; tps = 0 }) c.loop-swap-test.true))
    ∙ c.loop-swap.invariant

pub returns : goal.returns
returns c =
    ap (λ (xs : List Swap). tps_after c.loop-swap.tps xs c.args.range c.args.column) (sym (drop_all c.loop-swap.swap-index c.args.swaps.now c.loop-swap-test.false)) ∙ c.loop-swap.invariant
