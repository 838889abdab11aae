use Rattle.std.proofs.Common.{ap, sym, ◌∙◌}
use Rattle.std.proofs.lemmas.List.{take_all}
use Rattle.lst_machine.specs.Writes.{time_of}
use Rattle.lst_machine.proofs.Viewing.{taken, time_next, time_found}
use Rattle.lst_machine.proofs.views.time_of.Goals as goal

pub returns-then-is_of : goal.returns-then-is_of
returns-then-is_of c =
    let low = c.loop-place-test.true in
    let more = taken c.args.history.now c.loop-place.place c.index-history-place.result low c.index-history-place.is in
    sym (time_found c.args.history.now c.loop-place.place c.args.author.session c.args.author.number c.index-history-place.result low more c.loop-place.invariant (sym c.is_of.ensures ∙ c.if-is_of.true))

pub loop-place-preserved : goal.loop-place-preserved
loop-place-preserved c =
    let more = taken c.args.history.now c.loop-place.place c.index-history-place.result c.loop-place-test.true c.index-history-place.is in
    time_next c.args.history.now c.loop-place.place c.args.author.session c.args.author.number c.index-history-place.result more c.loop-place.invariant (sym c.is_of.ensures ∙ c.if-is_of.false)

pub returns : goal.returns
returns c = sym c.loop-place.invariant ∙ ap (λ cs. time_of cs c.args.author.session c.args.author.number) (take_all c.loop-place.place c.args.history.now c.loop-place-test.false)
