use Rattle.std.proofs.Common.{ℕ, ◌<◌, ◌≤◌, ◌++◌, ◌∷◌, [], List, min, length, ap, ◌∙◌, arith}
use Rattle.lst_script.specs.Canonical.{behind_spaces, change_pairs}
use Rattle.lst_script.proofs.PairsPrinted.{changes_step, changes_end}
use Rattle.lst_script.proofs.printing.push_named_changes.Goals as goal

pub loop-column-preserved : goal.loop-column-preserved
loop-column-preserved c =
    let low : c.loop-column.column < length c.args.names.now = omega (arith, c.min-column-end.ensures, c.loop-column-test.true, c.loop-column.auto.column-end) in
    let pushed = c.in_ok-push_pair_of_change.ensures ∙ ap (λ (name : List ℕ). c.loop-column.bytes.items ++ behind_spaces (change_pairs (name ∷ []) (c.change.result ∷ []))) c.as_bytes.ensures in
    changes_step c.args.names.now c.args.patch.now c.loop-column.column c.index-names-column.result c.change.result c.loop-column.bytes.items c.push_pair_of_change.new.bytes.items
    (c.args.bytes.now.items ++ behind_spaces (change_pairs c.args.names.now c.args.patch.now)) low c.index-names-column.is c.change.ensures pushed c.loop-column.invariant

pub returns : goal.returns
returns c =
    let ended : min (length c.args.names.now) (length c.args.patch.now) ≤ c.loop-column.column = omega (arith, c.min-column-end.ensures, c.len.ensures.len, c.loop-column-test.false) in
    changes_end c.args.names.now c.args.patch.now c.loop-column.column c.loop-column.bytes.items (c.args.bytes.now.items ++ behind_spaces (change_pairs c.args.names.now c.args.patch.now)) ended c.loop-column.invariant
