use Rattle.std.proofs.Common.{◌++◌, ◌∷◌, flat_map}
use Rattle.lst_script.specs.Canonical.{change_word}
use Rattle.lst_script.proofs.Appended.{one_more}
use Rattle.lst_script.proofs.printing.push_numbered_changes.Goals as goal

pub loop-column-preserved : goal.loop-column-preserved
loop-column-preserved c = one_more (λ change. 32 ∷ change_word change) c.args.patch.now c.loop-column.column c.change.result c.loop-column.bytes.items c.push_change.new.bytes.items
    (c.args.bytes.now.items ++ flat_map (λ change. 32 ∷ change_word change) c.args.patch.now) c.change.ensures c.in_ok-push_change.ensures c.loop-column.invariant
