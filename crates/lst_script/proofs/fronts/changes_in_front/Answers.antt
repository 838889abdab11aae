use Rattle.std.proofs.Common.{sym, ◌∙◌, arith}
use Rattle.lst_script.proofs.Beginnings.{no_changes, change_more, all_changes}
use Rattle.lst_script.proofs.fronts.changes_in_front.Goals as goal

pub loop-column-init : goal.loop-column-init
loop-column-init c = (no_changes c.args.text.now c.args.patch.now c.requires.none, omega arith)

pub loop-column-preserved : goal.loop-column-preserved
loop-column-preserved c =
    (rw c.push.ensures (change_more c.loop-column._column c.args.text.now c.loop-column.rest.now c.in_ok-change.after.now c.loop-column.patch c.in_ok-change.change c.as_set.result c.loop-column.invariant.0 c.in_ok-change.ensures c.as_set.ensures), omega (arith, c.loop-column-test.true))

pub returns-then-sets_some : goal.returns-then-sets_some
returns-then-sets_some c = all_changes c.args.count c.loop-column._column c.args.text.now c.loop-column.rest.now c.in_ok-behind.behind.now c.loop-column.patch c.loop-column.invariant.0 (omega (arith, c.loop-column.invariant.1, c.loop-column-test.false)) c.in_ok-behind.ensures (sym c.sets_some.ensures ∙ c.if-sets_some.true)
