use Rattle.std.proofs.Common.{◌+◌, List, drop, sym, ap, ◌∙◌}
use Rattle.std.proofs.lemmas.List.{drop_all}
use Rattle.lst_model.specs.declared.acts.Write.{Write}
use Rattle.lst_machine.specs.State.{Accepted}
use Rattle.lst_machine.specs.Writes.{gathered}
use Rattle.lst_machine.proofs.Viewing.{left}
use Rattle.lst_machine.proofs.views.gather.Goals as goal

pub loop-write-preserved : goal.loop-write-preserved
loop-write-preserved c =
    ap (λ (ws : List Write). gathered c.args.author.session c.args.author.number ws (drop (c.loop-write.write-index + 1) c.args.accepted.now)) c.in_ok-gather_one.ensures
    ∙ ap (λ (xs : List Accepted). gathered c.args.author.session c.args.author.number c.loop-write.own.items xs) (sym (left c.args.accepted.now c.loop-write.write-index c.write-item.result c.loop-write-test.true c.write-item.is))
    ∙ c.loop-write.invariant

pub returns : goal.returns
returns c =
    ap (λ (xs : List Accepted). gathered c.args.author.session c.args.author.number c.loop-write.own.items xs) (sym (drop_all c.loop-write.write-index c.args.accepted.now c.loop-write-test.false)) ∙ c.loop-write.invariant
