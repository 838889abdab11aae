use Rattle.std.proofs.Common.{◌≡◌, sym, subst, ap, ◌∙◌}
use Rattle.std.proofs.lemmas.Result.{IfOk-weaker}
use Rattle.lst_model.specs.declared.acts.Act.TheVariants.{Put}
use Rattle.lst_model.specs.declared.lines.Call.TheVariants.{Insert}
use Rattle.lst_machine.specs.Calls.{store_after}
use Rattle.lst_plain.specs.Engines.{EngineState}
use Rattle.lst_plain.specs.Steps.{reply_to_write, after_write, reply_to_first, after_first}
use Rattle.lst_plain.specs.Telling.{StoreTells}
use Rattle.lst_plain.specs.EngineOf.{engine_of, AnswersCall}
use Rattle.lst_plain.proofs.Answering.{insert_placed, insert_new}
use Rattle.lst_plain.proofs.engine.Engine.insert.Goals as goal

pub returns-in-Some-place-clause-ok : goal.returns-in-Some-place-clause-ok
returns-in-Some-place-clause-ok c = IfOk-weaker c.write.result
    (λ reply. (reply ≡ reply_to_write (engine_of c.args.self.now) c.args.session c.in-Some.transaction.begin c.in-Some-place.place (Put c.copied.result)) × (engine_of c.write.new.self ≡ after_write (engine_of c.args.self.now) c.args.session c.in-Some.transaction.begin c.in-Some-place.place (Put c.copied.result)))
    (λ reply. AnswersCall c.args.self.now c.write.new.self c.args.session (Insert c.args.key c.args.row.now) reply)
    (λ reply written limits store told.
    let done = insert_placed (engine_of c.args.self.now) limits store told c.args.session c.requires c.args.self.now.whole c.in-Some.transaction (sym c.in-Some.ensures) c.args.key c.in-Some-place.place (sym c.in-Some-place.ensures) c.if-transaction.false c.args.row.now in
    let reply_is = ap (λ cells. reply_to_write (engine_of c.args.self.now) c.args.session c.in-Some.transaction.begin c.in-Some-place.place (Put cells)) c.copied.ensures in
    let after_is = ap (λ cells. after_write (engine_of c.args.self.now) c.args.session c.in-Some.transaction.begin c.in-Some-place.place (Put cells)) c.copied.ensures in
    (written.0 ∙ reply_is ∙ done.0, subst (λ (engine : EngineState). StoreTells engine limits (store_after limits store c.args.session (Insert c.args.key c.args.row.now))) (sym (written.1 ∙ after_is)) done.1))
    c.write.ensures.ok

pub returns-in-None-clause-ok : goal.returns-in-None-clause-ok
returns-in-None-clause-ok c = IfOk-weaker c.write_first.result
    (λ reply. (reply ≡ reply_to_first (engine_of c.args.self.now) c.args.session c.in-Some.transaction.begin c.args.key (Put c.copied.result)) × (engine_of c.write_first.new.self ≡ after_first (engine_of c.args.self.now) c.args.session c.in-Some.transaction.begin c.args.key (Put c.copied.result)))
    (λ reply. AnswersCall c.args.self.now c.write_first.new.self c.args.session (Insert c.args.key c.args.row.now) reply)
    (λ reply written limits store told.
    let done = insert_new (engine_of c.args.self.now) limits store told c.args.session c.requires c.args.self.now.whole c.in-Some.transaction (sym c.in-Some.ensures) c.if-transaction.false c.args.key (sym c.in-None.ensures) c.args.row.now in
    let reply_is = ap (λ cells. reply_to_first (engine_of c.args.self.now) c.args.session c.in-Some.transaction.begin c.args.key (Put cells)) c.copied.ensures in
    let after_is = ap (λ cells. after_first (engine_of c.args.self.now) c.args.session c.in-Some.transaction.begin c.args.key (Put cells)) c.copied.ensures in
    (written.0 ∙ reply_is ∙ done.0, subst (λ (engine : EngineState). StoreTells engine limits (store_after limits store c.args.session (Insert c.args.key c.args.row.now))) (sym (written.1 ∙ after_is)) done.1))
    c.write_first.ensures.ok
