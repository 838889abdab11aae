use Rattle.std.proofs.Common.{◌+◌, List, drop, sym, ap, ◌∙◌}
use Rattle.std.proofs.lemmas.List.{drop_all}
use Rattle.lst_model.specs.declared.acts.Write.{Write}
use Rattle.lst_model.specs.Tables.{Rows, all_applied}
use Rattle.lst_csv.proofs.Lists.{left}
use Rattle.lst_csv.proofs.folding.apply_all.Goals as goal

pub loop-write-preserved : goal.loop-write-preserved
loop-write-preserved c =
    ap (λ (table : Rows). all_applied table (drop (c.loop-write.write-index + 1) c.args.writes.now)) c.in_ok-apply.ensures.ok
    ∙ ap (λ (ws : List Write). all_applied c.loop-write.table ws) (sym (left c.args.writes.now c.loop-write.write-index c.write-item.result c.loop-write-test.true c.write-item.is))
    ∙ c.loop-write.invariant

pub returns : goal.returns
returns c =
    ap (λ (ws : List Write). all_applied c.loop-write.table ws) (sym (drop_all c.loop-write.write-index c.args.writes.now c.loop-write-test.false)) ∙ c.loop-write.invariant
